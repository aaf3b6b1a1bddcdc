-- The instructions that make, delete and change files.
use Rattle.std.specs.Prelude.{ℕ, Bool, ◌==◌, if◌then◌else◌, List, [], ◌∷◌, IsTrue}
use Rattle.apdu_codec.specs.Command.{Apdu}
use Rattle.apdu_codec.specs.Ins.{is_one_of}
use Rattle.file_rows.specs.declared.mode.Mode.{Mode}
use Rattle.file_rows.specs.declared.row.FileRow.{FileRow}
use Rattle.uicc_channels.specs.CommandRow.{CommandRow}
use Rattle.uicc_channels.specs.declared.session.Session.{Session}
use Rattle.uicc_admin.specs.Create.{create_row}
use Rattle.uicc_admin.specs.Delete.{delete_row}
use Rattle.uicc_admin.specs.FileState.{activate_row, deactivate_row, terminate_row}
use Rattle.uicc_admin.specs.Resize.{resize_row}

-- CREATE FILE, DELETE FILE, RESIZE FILE, ACTIVATE FILE, DEACTIVATE FILE, TERMINATE EF
abbrev pub is_administration : ℕ → Bool
is_administration ins = is_one_of (0xE0 ∷ 0xE4 ∷ 0xD4 ∷ 0x44 ∷ 0x04 ∷ 0xE8 ∷ []) ins

abbrev pub IsAdministration : ℕ → Type 0
IsAdministration ins = IsTrue (is_administration ins)

-- the row of a command's instruction
abbrev pub admin_row :
    List FileRow → (List ℕ → Mode → Bool) → Session → Apdu → CommandRow
admin_row rows allowed session c =
    if c.ins == 0xE0 then create_row rows allowed session c
    else if c.ins == 0xE4 then delete_row rows allowed session c
    else if c.ins == 0xD4 then resize_row rows allowed session c
    else if c.ins == 0x44 then activate_row rows allowed session c
    else if c.ins == 0x04 then deactivate_row rows allowed session c
    else terminate_row rows allowed session c
