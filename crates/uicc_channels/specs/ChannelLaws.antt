-- What MANAGE CHANNEL and GET RESPONSE do to a session, in the words of their laws.
use Rattle.std.specs.Prelude.{ℕ, ◌≡◌, ◌≢◌, ◌<◌, ◌≤◌, List, Some, None}
use Rattle.apdu_codec.specs.Sw.{bytes_waiting}
use Rattle.apdu_codec.specs.declared.status.Sw.{Sw}
use Rattle.apdu_codec.specs.declared.status.TheConstants.Sw.{OK}
use Rattle.uicc_channels.specs.Chan.{holding}
use Rattle.uicc_channels.specs.CommandOutcome.{CommandOutcome}
use Rattle.uicc_channels.specs.Session.{IsOpen, channel_at}
use Rattle.uicc_channels.specs.declared.chan.Chan.{Chan}
use Rattle.uicc_channels.specs.declared.session.Session.{Session}

-- the lowest closed channel from 1 on: it is closed, and each one from 1 up to it is open
abbrev pub IsLowestClosed : Session → ℕ → Type 0
IsLowestClosed session number =
    (1 ≤ number) × (channel_at session number ≡ None)
    × ((lower : ℕ) → 1 ≤ lower → lower < number → IsOpen session lower)

-- of the session at most the channels change, and no content
abbrev pub ChangesChannelsAlone : Session → CommandOutcome → Type 0
ChangesChannelsAlone session outcome =
    (outcome.session ≡ record session { channels = outcome.session.channels })
    × (outcome.change ≡ None)

-- a channel is there as before, but for what waits on it
abbrev pub StaysButWaiting : Session → ℕ → Chan → Type 0
StaysButWaiting after number chan =
    (bytes : List ℕ) × (channel_at after number ≡ Some (holding bytes chan))

-- a status word other than 9000 and 61XX
abbrev pub IsRefusal : Sw → Type 0
IsRefusal sw = (sw ≢ OK) × ((count : ℕ) → sw ≢ bytes_waiting count)

-- every channel but this one is as it was
abbrev pub LeavesOthers : Session → ℕ → Session → Type 0
LeavesOthers before number after =
    (other : ℕ) → other ≢ number → channel_at after other ≡ channel_at before other

-- a command stays on its channel: every other one is as it was, and nothing but channels changes
pub record StaysOnChannel (session : Session) (channel : ℕ) (outcome : CommandOutcome)
    : Type 0 where
  pub others : LeavesOthers session channel outcome.session
  pub alone : ChangesChannelsAlone session outcome
