-- GSMA SGP.22, ES10c.GetEID.
use Rattle.isdr_commands.specs.Decision.{told}
use Rattle.isdr_commands.specs.declared.decision.Decision.{Decision}
use Rattle.isdr_codec.specs.declared.reply.Reply.TheVariants.{Eid}

abbrev pub eid_told : Decision
eid_told = told Eid
