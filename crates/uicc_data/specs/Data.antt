-- The instructions on the data of files.
use Rattle.std.specs.Prelude.{ℕ, Bool, ◌==◌, if◌then◌else◌, List, [], ◌∷◌, IsTrue}
use Rattle.apdu_codec.specs.Command.{Apdu}
use Rattle.apdu_codec.specs.Ins.{is_one_of}
use Rattle.file_rows.specs.declared.mode.Mode.{Mode}
use Rattle.file_rows.specs.declared.row.FileRow.{FileRow}
use Rattle.uicc_channels.specs.CommandRow.{CommandRow}
use Rattle.uicc_channels.specs.declared.session.Session.{Session}
use Rattle.uicc_data.specs.Binary.{read_binary_row, update_binary_row}
use Rattle.uicc_data.specs.Increase.{increase_row}
use Rattle.uicc_data.specs.Record.{read_record_row, update_record_row}
use Rattle.uicc_data.specs.Search.{search_record_row}

-- READ BINARY, UPDATE BINARY, READ RECORD, UPDATE RECORD, SEARCH RECORD, INCREASE
abbrev pub IsOnData : ℕ → Type 0
IsOnData ins = IsTrue (is_one_of (0xB0 ∷ 0xD6 ∷ 0xB2 ∷ 0xDC ∷ 0xA2 ∷ 0x32 ∷ []) ins)

-- the row of a command's instruction
abbrev pub data_row :
    List FileRow → (List ℕ → Mode → Bool) → Session → Apdu → CommandRow
data_row rows allowed session c =
    if c.ins == 0xB0 then read_binary_row rows allowed session c
    else if c.ins == 0xD6 then update_binary_row rows allowed session c
    else if c.ins == 0xB2 then read_record_row rows allowed session c
    else if c.ins == 0xDC then update_record_row rows allowed session c
    else if c.ins == 0xA2 then search_record_row rows allowed session c
    else increase_row rows allowed session c
