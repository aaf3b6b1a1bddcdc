use Rattle.std.specs.Prelude.{ℕ, Bool, ◌==◌, ◌||◌, List, length, Option, Some, None, if◌then◌else◌}
use Rattle.apdu_codec.specs.Answer.{status_alone}
use Rattle.apdu_codec.specs.Command.{Apdu}
use Rattle.apdu_codec.specs.Sw.{bytes_waiting, wrong_le}
use Rattle.apdu_codec.specs.declared.answers.Answer.{Answer}
use Rattle.apdu_codec.specs.declared.status.Sw.{Sw}
use Rattle.apdu_codec.specs.declared.status.TheConstants.Sw.{OK}
use Rattle.uicc_channels.specs.CommandOutcome.{CommandOutcome}
use Rattle.uicc_channels.specs.Session.{with_pending}
use Rattle.uicc_channels.specs.declared.session.Session.{Session}

-- whether an Le takes a body of this length: an Le of 00, which is 256, takes one of any length
abbrev pub takes : ℕ → ℕ → Bool
takes le count = (le == 256) || (le == count)

-- why an answer body isn't given
abbrev pub le_refusal : Option ℕ → List ℕ → Option Sw
le_refusal None body = None
le_refusal (Some le) body = if takes le (length body) then None else Some (wrong_le (length body))

-- how an answer body is answered, by the Le and with this status word for success
abbrev pub answered : Sw → Option ℕ → List ℕ → Answer
answered success None body = status_alone (bytes_waiting (length body))
answered success (Some le) body =
    if takes le (length body) then record { body = body; sw = success }
    else status_alone (wrong_le (length body))

-- with no Le the body waits on the channel
abbrev pub waiting : Option ℕ → Session → ℕ → List ℕ → Session
waiting None session channel body = with_pending session channel body
waiting (Some le) session channel body = session

-- ETSI TS 102 221, GET RESPONSE: what comes of a command that has this answer body
abbrev pub delivered : Session → Apdu → List ℕ → CommandOutcome
delivered session c body =
    record {
      answer = answered OK c.le body;
      session = waiting c.le session c.channel body;
      change = None;
    }
