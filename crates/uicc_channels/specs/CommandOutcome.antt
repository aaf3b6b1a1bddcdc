use Rattle.std.specs.Prelude.{Option, None}
use Rattle.apdu_codec.specs.Answer.{status_alone}
use Rattle.apdu_codec.specs.declared.answers.Answer.{Answer}
use Rattle.apdu_codec.specs.declared.status.Sw.{Sw}
use Rattle.file_rows.specs.declared.change.Change.{Change}
use Rattle.uicc_channels.specs.SessionChange.{no_change, session_after}
use Rattle.uicc_channels.specs.declared.decided.Decided.{Decided}
use Rattle.uicc_channels.specs.declared.session.Session.{Session}

-- what a command comes to: its answer, the session after it, and what it changes in the content
pub record CommandOutcome : Type 0 where
  pub answer : Answer
  pub session : Session
  pub change : Option Change

-- what a decision on a command of this session comes to
abbrev pub outcome_of : Session → Decided → CommandOutcome
outcome_of session decided =
    record {
      answer = decided.answer;
      session = session_after session decided.session;
      change = decided.change;
    }

-- an answer that changes nothing
abbrev pub answering : Session → Answer → CommandOutcome
answering session answer = record { answer = answer; session = session; change = None }

-- a refused command changes nothing
abbrev pub refused : Session → Sw → CommandOutcome
refused session sw = answering session (status_alone sw)

-- a status word alone, with which nothing changes
abbrev pub status_decision : Sw → Decided
status_decision sw = record { answer = status_alone sw; session = no_change; change = None }
