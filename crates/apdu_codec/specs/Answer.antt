use Rattle.std.specs.Prelude.{[]}
use Rattle.apdu_codec.specs.declared.answers.Answer.{Answer}
use Rattle.apdu_codec.specs.declared.status.Sw.{Sw}

-- a status word without an answer body
abbrev pub status_alone : Sw → Answer
status_alone sw = record { body = []; sw = sw }
