-- GET RESPONSE (ETSI TS 102 221): the bytes of an answer that wait on the channel, from the front.
use Rattle.std.specs.Prelude.{ℕ, ◌==◌, ◌&&◌, ◌||◌, nat_le, if◌then◌else◌, List, [], ◌∷◌, length}
use Rattle.std.specs.Prelude.{take, drop, Option, Some, None, unwrap_or}
use Rattle.apdu_codec.specs.Command.{Apdu}
use Rattle.apdu_codec.specs.Sw.{bytes_waiting, wrong_le}
use Rattle.apdu_codec.specs.declared.status.Sw.{Sw}
use Rattle.apdu_codec.specs.declared.status.TheConstants.Sw.{CONDITIONS_NOT_SATISFIED, OK}
use Rattle.uicc_channels.specs.CommandOutcome.{CommandOutcome}
use Rattle.uicc_channels.specs.CommandRow.{CommandRow}
use Rattle.uicc_channels.specs.Needs.{needs_of}
use Rattle.uicc_channels.specs.Session.{open_channel, with_pending}
use Rattle.uicc_channels.specs.Shape.{has_le_alone}
use Rattle.uicc_channels.specs.declared.session.Session.{Session}

-- why none of these bytes are given: none wait, or fewer than Le asks for; 256 is what an Le of 00
-- asks for, as many as there are
abbrev pub giving_refusal : List ℕ → ℕ → Option Sw
giving_refusal [] le = Some CONDITIONS_NOT_SATISFIED
giving_refusal (byte ∷ bytes) le =
    if (le == 256) || nat_le le (length (byte ∷ bytes)) then None
    else Some (wrong_le (length (byte ∷ bytes)))

-- the status word with which bytes are given while these go on waiting
abbrev pub rest_status : List ℕ → Sw
rest_status [] = OK
rest_status (byte ∷ bytes) = bytes_waiting (length (byte ∷ bytes))

-- the first of the bytes that wait on the channel are given, and the rest goes on waiting there
abbrev pub giving : Session → ℕ → ℕ → CommandOutcome
giving session channel le =
    let bytes = (open_channel session channel).pending in
    record {
      answer = record { body = take le bytes; sw = rest_status (drop le bytes) };
      session = with_pending session channel (drop le bytes);
      change = None;
    }

abbrev pub get_response_row : Session → Apdu → CommandRow
get_response_row session c =
    let le = unwrap_or c.le 0 in
    record {
      needs = record (needs_of session c) {
        parameters = (c.p1 == 0x00) && (c.p2 == 0x00);
        lengths = has_le_alone c;
        own = giving_refusal (open_channel session c.channel).pending le;
      };
      done = giving session c.channel le;
    }
