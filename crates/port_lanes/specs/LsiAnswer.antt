-- The answer to a MANAGE LSI that asks for the number of ports, or is refused, or resets one.
use Rattle.std.specs.Prelude.{ℕ, Result, Ok, Err}
use Rattle.apdu_codec.specs.Answer.{status_alone}
use Rattle.apdu_codec.specs.declared.answers.Answer.{Answer}
use Rattle.apdu_codec.specs.declared.status.Sw.{Sw}
use Rattle.apdu_codec.specs.declared.status.TheConstants.Sw.{OK}
use Rattle.lsi_refresh.specs.Lsi.{count_body}
use Rattle.lsi_refresh.specs.declared.lsi.Lsi.{Lsi}
use Rattle.lsi_refresh.specs.declared.lsi.Lsi.TheVariants.{Count, Reset}

abbrev pub lsi_answer : ℕ → Result Lsi Sw → Answer
lsi_answer ports (Ok Count) = record { body = count_body ports; sw = OK }
lsi_answer ports (Ok (Reset port)) = status_alone OK
lsi_answer ports (Err sw) = status_alone sw
