-- Which files a command of administration works on.
use Rattle.std.specs.Prelude.{ℕ, ◌≡◌, ◌⊎◌, List, [], ◌∷◌, Some, IsTrue}
use Rattle.apdu_codec.specs.Command.{Apdu}
use Rattle.apdu_codec.specs.Ins.{is_one_of}
use Rattle.file_rows.specs.Path.{stands_below}
use Rattle.file_rows.specs.declared.row.FileRow.{FileRow}
use Rattle.uicc_channels.specs.declared.chan.Chan.{Chan}
use Rattle.uicc_admin.specs.Delete.{named_to_delete}
use Rattle.uicc_admin.specs.NamedFile.{ef_in, ef_named}
use Rattle.uicc_admin.specs.Resize.{size_asked}
use Rattle.uicc_admin.specs.declared.resize.NewSize.{NewSize}

-- ACTIVATE FILE, DEACTIVATE FILE and TERMINATE EF work on the current EF, or on the one in the
-- current directory that they name
pub record IsBroughtIntoState (rows : List FileRow) (chan : Chan) (c : Apdu) (path : List ℕ) :
    Type 0 where
  pub instruction : IsTrue (is_one_of (0x44 ∷ 0x04 ∷ 0xE8 ∷ []) c.ins)
  pub row : FileRow
  pub named : ef_named rows chan c.body ≡ Some row
  pub there : row.head.path ≡ path

-- RESIZE FILE works on the EF in the current directory that it names
pub record IsResized (rows : List FileRow) (chan : Chan) (c : Apdu) (path : List ℕ) :
    Type 0 where
  pub instruction : c.ins ≡ 0xD4
  pub asked : NewSize
  pub said : size_asked c.body ≡ Some asked
  pub row : FileRow
  pub named : ef_in rows chan.dir asked.id ≡ Some row
  pub there : row.head.path ≡ path

-- DELETE FILE works on the file that it names and on all below it
pub record IsDeleted (rows : List FileRow) (chan : Chan) (c : Apdu) (path : List ℕ) :
    Type 0 where
  pub instruction : c.ins ≡ 0xE4
  pub row : FileRow
  pub named : named_to_delete rows chan c.body ≡ Some row
  pub below : IsTrue (stands_below row.head.path path)

-- the command works on the file at this path
abbrev pub IsAdministered : List FileRow → Chan → Apdu → List ℕ → Type 0
IsAdministered rows chan c path =
    IsBroughtIntoState rows chan c path ⊎ (IsResized rows chan c path ⊎ IsDeleted rows chan c path)
