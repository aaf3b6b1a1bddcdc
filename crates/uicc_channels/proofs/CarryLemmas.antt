use Rattle.std.proofs.Common.{ℕ, Bool, true, false, List, ◌∷◌, [], Option, Some, None, IfSome}
use Rattle.std.proofs.Common.{IsSome, refl, inl, arith}
use Rattle.std.specs.Prelude.{◌==◌, ◌||◌, if◌then◌else◌, unwrap_or}
use Rattle.apdu_codec.specs.Command.{Apdu}
use Rattle.file_rows.specs.Content.{IsValid}
use Rattle.file_rows.specs.declared.content.Content.{Content}
use Rattle.file_rows.specs.declared.row.FileRow.{FileRow}
use Rattle.uicc_channels.proofs.ManageLemmas.{IsClosing, IsOpening, manage-has}
use Rattle.uicc_channels.proofs.ResponseLemmas.{response-has}
use Rattle.uicc_channels.proofs.SessionLemmas.{StandsAmong-at_master, Suits-waiting}
use Rattle.uicc_channels.proofs.SessionLemmas.{Suits-with_channel}
use Rattle.uicc_channels.specs.CarriesOut.{CanCarryOut}
use Rattle.uicc_channels.specs.Chan.{StandsAmong, at_master}
use Rattle.uicc_channels.specs.CommandRow.{decided}
use Rattle.uicc_channels.specs.GetResponse.{get_response_row}
use Rattle.uicc_channels.specs.ManageChannel.{closing, manage_channel_row, opened_from, opening}
use Rattle.uicc_channels.specs.Session.{IsOpen, Suits, channel_at, open_channel}
use Rattle.uicc_channels.specs.declared.chan.Chan.{Chan}
use Rattle.uicc_channels.specs.declared.session.Session.{Session}

-- an open channel names what is among the files
pub stands_open : (session : Session) (rows : List FileRow) (number : ℕ) → Suits session rows → IsOpen session number → StandsAmong rows (open_channel session number)
stands_open session rows number suits is_open = by_place (channel_at session number) is_open (suits.each number)
  where
    by_place : (place : Option Chan) → IsSome place → IfSome place (StandsAmong rows) → StandsAmong rows (unwrap_or place at_master)
    by_place None is_open stands = absurd (cc)
    by_place (Some chan) is_open stands = stands

-- a channel that opens from one among the files is among them
StandsAmong-opened : (content : Content) (number : ℕ) (chan : Chan) → IsValid content → StandsAmong content.rows chan → StandsAmong content.rows (opened_from number chan)
StandsAmong-opened content number chan valid stands = by_kind ((number == 0) || chan.isdr)
  where
    by_kind : (at_mf : Bool) → StandsAmong content.rows (if at_mf then at_master else record at_master { app = chan.app; dir = chan.dir })
    by_kind true = StandsAmong-at_master content valid
    by_kind false = record { app = stands.app; dir = stands.dir; file = tt; pointer = inl refl }

Suits-opening : (content : Content) (session : Session) (c : Apdu) (number : ℕ) → IsValid content → Suits session content.rows → IsOpening session c number
    → Suits (opening session c number).session content.rows
Suits-opening content session c number valid suits opens =
    Suits-with_channel _ content.rows number (Some (opened_from c.channel (open_channel session c.channel)))
    (Suits-waiting c.le session content.rows c.channel (number ∷ []) suits)
    (StandsAmong-opened content c.channel (open_channel session c.channel) valid (stands_open session content.rows c.channel suits opens.channel))
    (λ e. refl)

Suits-closing : (session : Session) (rows : List FileRow) (c : Apdu) → Suits session rows → IsClosing c → Suits (closing session c.p2).session rows
Suits-closing session rows c suits closes =
    Suits-with_channel session rows c.p2 None suits tt (λ e. absurd (omega (arith, e, closes.number)))

pub CanCarryOut-manage_channel : (content : Content) (session : Session) (c : Apdu) → IsValid content → Suits session content.rows
    → CanCarryOut content (decided session (manage_channel_row session c))
CanCarryOut-manage_channel content session c valid suits =
    manage-has (CanCarryOut content) session c
    (λ sw. record { change = tt; session = suits })
    (λ number opens. record { change = tt; session = Suits-opening content session c number valid suits opens })
    (λ closes. record { change = tt; session = Suits-closing session content.rows c suits closes })

pub CanCarryOut-get_response : (content : Content) (session : Session) (c : Apdu) → Suits session content.rows
    → CanCarryOut content (decided session (get_response_row session c))
CanCarryOut-get_response content session c suits =
    response-has (CanCarryOut content) session c
    (λ sw. record { change = tt; session = suits })
    (λ le is_open. record { change = tt; session = Suits-waiting None session content.rows c.channel _ suits })
