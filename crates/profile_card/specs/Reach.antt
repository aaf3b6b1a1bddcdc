-- Which files a command works on.
use Rattle.std.specs.Prelude.{ℕ, ◌≡◌, ◌⊎◌, List, [], ◌∷◌, IsTrue}
use Rattle.apdu_codec.specs.Command.{Apdu}
use Rattle.apdu_codec.specs.Ins.{is_one_of}
use Rattle.file_rows.specs.declared.row.FileRow.{FileRow}
use Rattle.uicc_admin.specs.Administered.{IsAdministered}
use Rattle.uicc_admin.specs.Administration.{IsAdministration}
use Rattle.uicc_channels.specs.Session.{open_channel}
use Rattle.uicc_data.specs.WorksOn.{IsWorkedOn}
use Rattle.profile_card.specs.Card.{Card}

-- UPDATE BINARY, UPDATE RECORD and INCREASE work on the current EF of their channel, or on the file
-- of its current directory that they name by SFI
pub record IsWritten (card : Card) (c : Apdu) (path : List ℕ) : Type 0 where
  pub instruction : IsTrue (is_one_of (0xD6 ∷ 0xDC ∷ 0x32 ∷ []) c.ins)
  pub row : FileRow
  pub worked_on : IsWorkedOn card.content.rows (open_channel card.session c.channel) row
  pub there : row.head.path ≡ path

-- the command works on the file at this path, so that it may change it
abbrev pub WorksOn : Card → Apdu → List ℕ → Type 0
WorksOn card c path =
    IsWritten card c path
    ⊎ (IsAdministration c.ins
    × IsAdministered card.content.rows (open_channel card.session c.channel) c path)
