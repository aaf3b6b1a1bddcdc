-- MANAGE CHANNEL (ETSI TS 102 221): a logical channel is opened or closed.
use Rattle.std.specs.Prelude.{ℕ, Bool, not, ◌==◌, ◌&&◌, ◌||◌, if◌then◌else◌, [], ◌∷◌, length, map}
use Rattle.std.specs.Prelude.{Option, Some, None, is_some, unwrap_or}
use Rattle.apdu_codec.specs.Answer.{status_alone}
use Rattle.apdu_codec.specs.Class.{is_within}
use Rattle.apdu_codec.specs.Command.{Apdu}
use Rattle.apdu_codec.specs.declared.status.Sw.{Sw}
use Rattle.apdu_codec.specs.declared.status.TheConstants.Sw.{CHANNEL_NOT_SUPPORTED}
use Rattle.apdu_codec.specs.declared.status.TheConstants.Sw.{FUNCTION_NOT_SUPPORTED, OK}
use Rattle.plain_lists.specs.FirstOf.{first_of}
use Rattle.uicc_channels.specs.Chan.{at_master}
use Rattle.uicc_channels.specs.CommandOutcome.{CommandOutcome, answering}
use Rattle.uicc_channels.specs.CommandRow.{CommandRow}
use Rattle.uicc_channels.specs.Delivery.{delivered, le_refusal}
use Rattle.uicc_channels.specs.Needs.{needs_of, refused_unless}
use Rattle.uicc_channels.specs.Session.{channel_at, open_channel, with_channel}
use Rattle.uicc_channels.specs.declared.chan.Chan.{Chan}
use Rattle.uicc_channels.specs.declared.session.Session.{Session}

-- P1 00 with P2 00 opens a channel
abbrev pub is_opening : ℕ → ℕ → Bool
is_opening p1 p2 = (p1 == 0x00) && (p2 == 0x00)

-- P1 80 closes the channel with the number P2; the basic channel stays open
abbrev pub is_closing : ℕ → ℕ → Bool
is_closing p1 p2 = (p1 == 0x80) && is_within 1 3 p2

-- this number, where its channel is closed
abbrev pub if_closed : Session → ℕ → Option ℕ
if_closed session number = if is_some (channel_at session number) then None else Some number

-- the lowest number from 1 on whose channel is closed, where there is one
abbrev pub lowest_closed : Session → Option ℕ
lowest_closed session = first_of (map (if_closed session) (1 ∷ 2 ∷ 3 ∷ []))

-- a channel opened from the basic one, or from one with the ISD-R, stands at the MF; from another
-- one it takes the application and the directory
abbrev pub opened_from : ℕ → Chan → Chan
opened_from number chan =
    if (number == 0) || chan.isdr then at_master
    else record at_master { app = chan.app; dir = chan.dir }

-- why no channel is opened: none is closed, or Le is another than that of its number
abbrev pub opening_refusal : Option ℕ → Option ℕ → Option Sw
opening_refusal None le = Some FUNCTION_NOT_SUPPORTED
opening_refusal (Some number) le = le_refusal le (number ∷ [])

-- a channel is opened, and its number is the answer body
abbrev pub opening : Session → Apdu → ℕ → CommandOutcome
opening session c number =
    let told = delivered session c (number ∷ []) in
    let chan = opened_from c.channel (open_channel session c.channel) in
    record told { session = with_channel told.session number (Some chan) }

abbrev pub closing : Session → ℕ → CommandOutcome
closing session number = answering (with_channel session number None) (status_alone OK)

-- there is no body, and an Le where a channel with the ISD-R opens another: GET RESPONSE gives
-- nothing of a card's there
abbrev pub are_channel_lengths : Session → Apdu → Bool
are_channel_lengths session c =
    (length c.body == 0)
    && (not (is_opening c.p1 c.p2) || is_some c.le || not (open_channel session c.channel).isdr)

abbrev pub manage_channel_row : Session → Apdu → CommandRow
manage_channel_row session c =
    record {
      needs = record (needs_of session c) {
        parameters = is_opening c.p1 c.p2 || is_closing c.p1 c.p2;
        lengths = are_channel_lengths session c;
        own =
            if is_opening c.p1 c.p2 then opening_refusal (lowest_closed session) c.le
            else refused_unless (is_some (channel_at session c.p2)) CHANNEL_NOT_SUPPORTED;
      };
      done =
          if is_opening c.p1 c.p2 then opening session c (unwrap_or (lowest_closed session) 0)
          else closing session c.p2;
    }
