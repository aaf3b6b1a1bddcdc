use Rattle.std.specs.Prelude.{ℕ, ◌-◌, ◌≡◌, Bool, List, ◌∷◌, length, replicate, slice_index_or}
use Rattle.std.specs.Prelude.{slice_set, Option, Some, None, IfSome, IsSome, option_map, unwrap_or}
use Rattle.std.specs.Prelude.{if◌then◌else◌}
use Rattle.file_rows.specs.declared.row.FileRow.{FileRow}
use Rattle.uicc_channels.specs.Chan.{StandsAmong, at_isdr, at_master, holding}
use Rattle.uicc_channels.specs.declared.chan.Chan.{Chan}
use Rattle.uicc_channels.specs.declared.session.Refresh.TheVariants.{Announced, Quiet}
use Rattle.uicc_channels.specs.declared.session.Session.{Session}
use Rattle.uicc_channels.specs.declared.session.TheConstants.{CHANNELS}

-- the channel of that number, where it is open
abbrev pub channel_at : Session → ℕ → Option Chan
channel_at session number = slice_index_or session.channels number None

-- the channel of that number, which is open
abbrev pub open_channel : Session → ℕ → Chan
open_channel session number = unwrap_or (channel_at session number) at_master

abbrev pub IsOpen : Session → ℕ → Type 0
IsOpen session number = IsSome (channel_at session number)

-- the session with this in the place of that channel
abbrev pub with_channel : Session → ℕ → Option Chan → Session
with_channel session number channel =
    record session { channels = slice_set session.channels number channel }

-- the session with these bytes waiting on that channel
abbrev pub with_pending : Session → ℕ → List ℕ → Session
with_pending session number bytes =
    with_channel session number (option_map (holding bytes) (channel_at session number))

-- ETSI TS 102 221, after a reset: nothing is verified, and the basic channel alone is open, at the
-- MF
abbrev pub reset_session : Bool → Session
reset_session refresh =
    record {
      channels = Some at_master ∷ replicate (CHANNELS - 1) None;
      verified = 0;
      refresh = if refresh then Announced else Quiet;
    }

-- the same, with the kept channel at the ISD-R
abbrev pub fresh_session : Bool → Option ℕ → Session
fresh_session refresh None = reset_session refresh
fresh_session refresh (Some kept) = with_channel (reset_session refresh) kept (Some at_isdr)

-- a session of a card with these files: it has a place for each channel, its basic channel is
-- open, and what its open channels name is there
pub record Suits (session : Session) (rows : List FileRow) : Type 0 where
  pub places : length session.channels ≡ CHANNELS
  pub basic : IsOpen session 0
  pub each : (number : ℕ) → IfSome (channel_at session number) (StandsAmong rows)
