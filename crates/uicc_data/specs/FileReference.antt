-- How a command names the file that it works on (ETSI TS 102 221, file referencing).
use Rattle.std.specs.Prelude.{ℕ, List, Option, Some}
use Rattle.apdu_codec.specs.declared.status.Sw.{Sw}
use Rattle.apdu_codec.specs.declared.status.TheConstants.Sw.{FILE_NOT_FOUND, NO_CURRENT_EF}
use Rattle.file_rows.specs.Find.{child_with_sfi}
use Rattle.file_rows.specs.declared.row.FileRow.{FileRow}
use Rattle.uicc_channels.specs.Chan.{current_file}
use Rattle.uicc_channels.specs.Session.{open_channel, with_channel}
use Rattle.uicc_channels.specs.declared.chan.Chan.{Chan}
use Rattle.uicc_channels.specs.declared.session.Session.{Session}
use Rattle.uicc_data.specs.declared.reference.FileReference.{FileReference}
use Rattle.uicc_data.specs.declared.reference.FileReference.TheVariants.{CurrentEf, Sfi}

-- the file that a command works on: the current EF, or one in the current directory
abbrev pub file_named : List FileRow → Chan → FileReference → Option FileRow
file_named rows chan CurrentEf = current_file rows chan
file_named rows chan (Sfi sfi) = child_with_sfi rows chan.dir sfi

-- why there is none
abbrev pub not_there : FileReference → Sw
not_there CurrentEf = NO_CURRENT_EF
not_there (Sfi sfi) = FILE_NOT_FOUND

-- the record pointer with which a command begins: by SFI there is none, also where the file is the
-- current EF
abbrev pub pointer_at : Chan → FileReference → ℕ
pointer_at chan CurrentEf = chan.pointer
pointer_at chan (Sfi sfi) = 0

-- the channel with a file of its current directory as its current EF, and this record pointer; what
-- waits goes on to wait
abbrev pub standing_on : List ℕ → ℕ → Chan → Chan
standing_on path pointer chan = record chan { file = Some path; pointer = pointer }

-- the session after a command on a file: the channel stands on that file
abbrev pub using : Session → ℕ → List ℕ → ℕ → Session
using session channel path pointer =
    with_channel session channel (Some (standing_on path pointer (open_channel session channel)))
