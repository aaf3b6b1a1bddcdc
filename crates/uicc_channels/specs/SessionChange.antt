use Rattle.std.specs.Prelude.{ℕ, Bool, false, ◌&&◌, nat_lt, if◌then◌else◌, List, map, Option, Some}
use Rattle.std.specs.Prelude.{None, option_map, unwrap_or}
use Rattle.file_rows.specs.Path.{same_path}
use Rattle.uicc_channels.specs.Session.{with_channel}
use Rattle.uicc_channels.specs.declared.chan.Chan.{Chan}
use Rattle.uicc_channels.specs.declared.session.Session.{Session}
use Rattle.uicc_channels.specs.declared.session_change.ChannelChange.{ChannelChange}
use Rattle.uicc_channels.specs.declared.session_change.NewEnd.{NewEnd}
use Rattle.uicc_channels.specs.declared.session_change.SessionChange.{SessionChange}

-- what leaves a session as it is
abbrev pub no_change : SessionChange
no_change = record { own = None; other = None; verified = None; refresh = None; new_end = None }

-- the command's own channel is left so
abbrev pub own_change : ℕ → Option Chan → SessionChange
own_change channel after =
    record no_change { own = Some (record { channel = channel; after = after }) }

-- the session with what stands afterwards in the place of a channel
abbrev pub with_place : Session → Option ChannelChange → Session
with_place session None = session
with_place session (Some change) = with_channel session change.channel change.after

-- whether it is the channel's current EF
abbrev pub is_current : Option (List ℕ) → List ℕ → Bool
is_current None path = false
is_current (Some file) path = same_path file path

-- a channel without a record pointer past the new end of its current EF
abbrev pub within_end : NewEnd → Chan → Chan
within_end end chan =
    if is_current chan.file end.path && nat_lt end.records chan.pointer
    then record chan { pointer = 0 } else chan

-- the session without record pointers past the new end of a file
abbrev pub with_end : Session → Option NewEnd → Session
with_end session None = session
with_end session (Some end) =
    record session { channels = map (option_map (within_end end)) session.channels }

-- the session with other verified PINs and another state of its REFRESH
abbrev pub with_states : Session → SessionChange → Session
with_states session change =
    record session {
      verified = unwrap_or change.verified session.verified;
      refresh = unwrap_or change.refresh session.refresh;
    }

-- the session after a command: its parts are independent, and a part that is none changes nothing
abbrev pub session_after : Session → SessionChange → Session
session_after session change =
    with_end
    (with_place (with_place (with_states session change) change.own) change.other)
    change.new_end
