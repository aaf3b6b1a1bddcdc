use Rattle.std.specs.Prelude.{ℕ, ◌==◌, if◌then◌else◌, List, [], ◌∷◌, Option, Some, None}
use Rattle.std.specs.Prelude.{option_and_then}
use Rattle.file_rows.specs.Content.{file_at}
use Rattle.file_rows.specs.FileHead.{holds_files}
use Rattle.file_rows.specs.Find.{application_named, child, file_of_path, only}
use Rattle.file_rows.specs.Path.{master, own_id, parent_of}
use Rattle.file_rows.specs.declared.path.TheConstants.{CURRENT_APPLICATION_ID, MASTER_FILE_ID}
use Rattle.file_rows.specs.declared.row.FileRow.{FileRow}
use Rattle.plain_lists.specs.FirstOf.{first_of}
use Rattle.uicc_channels.specs.declared.chan.Chan.{Chan}
use Rattle.uicc_select.specs.declared.naming.Target.{Target}
use Rattle.uicc_select.specs.declared.naming.Target.TheVariants.{Id, Directory, Parent, Named}
use Rattle.uicc_select.specs.declared.naming.Target.TheVariants.{FromMaster, FromCurrent}

-- a directory in a directory
abbrev pub directory_in : List FileRow → List ℕ → ℕ → Option FileRow
directory_in rows directory id = only (λ row. holds_files row.head.kind) (child rows directory id)

-- the file at a path, where that is its identifier
abbrev pub itself : List FileRow → ℕ → List ℕ → Option FileRow
itself rows id path = if own_id path == id then file_at path rows else None

-- from a directory: a file in it, itself, its parent, or a directory in its parent
abbrev pub found_near : List FileRow → List ℕ → ℕ → Option FileRow
found_near rows directory id =
    first_of (
    child rows directory id
    ∷ itself rows id directory
    ∷ option_and_then (itself rows id) (parent_of directory)
    ∷ option_and_then (λ parent. directory_in rows parent id) (parent_of directory)
    ∷ []
    )

-- ETSI TS 102 221, SELECT by file identifier: 3F00 is the MF, and 7FFF the channel's application
abbrev pub found_by_id : List FileRow → Chan → ℕ → Option FileRow
found_by_id rows chan id =
    if id == MASTER_FILE_ID then file_at master rows
    else if id == CURRENT_APPLICATION_ID then file_of_path rows chan.app
    else found_near rows chan.dir id

-- from a file, each identifier that of a file in the one before
abbrev pub found_through : List FileRow → List ℕ → FileRow → Option FileRow
found_through rows [] row = Some row
found_through rows (id ∷ ids) row =
    option_and_then (found_through rows ids) (child rows row.head.path id)

-- ETSI TS 102 221, SELECT by path from the MF, of which a first identifier 7FFF is the channel's
-- application
abbrev pub found_from_master : List FileRow → Chan → List ℕ → Option FileRow
found_from_master rows chan [] = None
found_from_master rows chan (id ∷ ids) =
    if id == CURRENT_APPLICATION_ID
    then option_and_then (found_through rows ids) (file_of_path rows chan.app)
    else option_and_then (found_through rows (id ∷ ids)) (file_at master rows)

-- what a channel finds
abbrev pub found : List FileRow → Chan → Target → Option FileRow
found rows chan (Id id) = found_by_id rows chan id
found rows chan (Directory id) = directory_in rows chan.dir id
found rows chan Parent = file_of_path rows (parent_of chan.dir)
found rows chan (Named name) = application_named name rows
found rows chan (FromMaster ids) = found_from_master rows chan ids
found rows chan (FromCurrent ids) = option_and_then (found_through rows ids) (file_at chan.dir rows)
