-- GSMA SGP.22, ES10b.ListNotification: the pending notifications of these operations.
use Rattle.std.specs.Prelude.{ℕ}
use Rattle.isdr_commands.specs.Decision.{told}
use Rattle.isdr_commands.specs.declared.decision.Decision.{Decision}
use Rattle.isdr_codec.specs.declared.reply.Reply.TheVariants.{Notes}

abbrev pub notes_told : ℕ → Decision
notes_told operations = told (Notes operations)
