-- How a command on a file's life names the file: by its identifier in the current directory.
use Rattle.std.specs.Prelude.{ℕ, Bool, not, ◌==◌, ◌&&◌, ◌||◌, List, [], ◌∷◌, length, Option}
use Rattle.std.specs.Prelude.{option_and_then}
use Rattle.apdu_codec.specs.Command.{Apdu}
use Rattle.apdu_codec.specs.declared.status.Sw.{Sw}
use Rattle.apdu_codec.specs.declared.status.TheConstants.Sw.{FILE_NOT_FOUND, NO_CURRENT_EF}
use Rattle.fcp_codec.specs.Values.{id_of}
use Rattle.file_rows.specs.FileHead.{holds_files}
use Rattle.file_rows.specs.Find.{child, only}
use Rattle.file_rows.specs.declared.row.FileRow.{FileRow}
use Rattle.uicc_channels.specs.Chan.{current_file}
use Rattle.uicc_channels.specs.declared.chan.Chan.{Chan}

-- P1 and P2 are 00
abbrev pub has_no_parameters : Apdu → Bool
has_no_parameters c = (c.p1 == 0) && (c.p2 == 0)

-- an EF in a directory by its identifier
abbrev pub ef_in : List FileRow → List ℕ → ℕ → Option FileRow
ef_in rows directory id = only (λ row. not (holds_files row.head.kind)) (child rows directory id)

-- the EF that a body names: without one it is the current EF, else one in the current directory
abbrev pub ef_named : List FileRow → Chan → List ℕ → Option FileRow
ef_named rows chan [] = current_file rows chan
ef_named rows chan (b ∷ body) = option_and_then (ef_in rows chan.dir) (id_of (b ∷ body))

-- why there is none
abbrev pub ef_not_there : List ℕ → Sw
ef_not_there [] = NO_CURRENT_EF
ef_not_there (b ∷ body) = FILE_NOT_FOUND

-- a body names the current EF, or one by the two bytes of its identifier
abbrev pub may_name_ef : List ℕ → Bool
may_name_ef body = (length body == 0) || (length body == 2)
