-- What a request comes to, in its parts.
use Rattle.std.specs.Prelude.{ℕ, List, [], Option, Some, None}
use Rattle.isdr_commands.specs.declared.decision.Decision.{Decision}
use Rattle.isdr_commands.specs.declared.moves.Move.{Move}
use Rattle.isdr_commands.specs.declared.refusal.Refusal.{Refusal}
use Rattle.isdr_commands.specs.declared.refusal.Refusal.TheVariants.{NoPort, NoRoom, NotFound}
use Rattle.isdr_commands.specs.declared.refusal.Refusal.TheVariants.{Policy, RefreshPending}
use Rattle.isdr_commands.specs.declared.refusal.Refusal.TheVariants.{WrongState}
use Rattle.isdr_codec.specs.declared.reply.Reply.{Reply}
use Rattle.isdr_codec.specs.declared.reply.Reply.TheVariants.{Outcome}
use Rattle.port_table.specs.Target.{fault_number}
use Rattle.record_codec.specs.declared.profile.ProfileHead.{ProfileHead}
use Rattle.record_codec.specs.declared.record.Record.{Record}

abbrev pub refusal_number : Refusal → ℕ
refusal_number NotFound = 1
refusal_number WrongState = 2
refusal_number Policy = 3
refusal_number RefreshPending = 5
refusal_number (NoPort fault) = fault_number fault
refusal_number NoRoom = 127

-- a reply alone: nothing is recorded and no port moves
abbrev pub told : Reply → Decision
told reply = record { reply = reply; entry = None; moves = [] }

abbrev pub refused_with : ℕ → ℕ → Decision
refused_with tag result = told (Outcome tag result)

-- result 0, with the record and the ports that move
abbrev pub accepted : ℕ → Record → List Move → Decision
accepted tag entry moves = record { reply = Outcome tag 0; entry = Some entry; moves = moves }

-- 1 where the profile isn't found
abbrev pub at_profile : ℕ → Option ProfileHead → (ProfileHead → Decision) → Decision
at_profile tag None goes_on = refused_with tag 1
at_profile tag (Some head) goes_on = goes_on head
