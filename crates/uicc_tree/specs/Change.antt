use Rattle.std.specs.Prelude.{ℕ, false, ◌≡◌, ◌⊎◌, ◌≤◌, List, [], length, replicate, slice_index}
use Rattle.std.specs.Prelude.{Option, ⊤}
use Rattle.file_rows.specs.Change.{Fits, changed, with_file}
use Rattle.file_rows.specs.Content.{AreFiles, use_of}
use Rattle.file_rows.specs.FileHead.{IsFile}
use Rattle.file_rows.specs.Path.{stands_below}
use Rattle.file_rows.specs.declared.change.Change.{Change}
use Rattle.file_rows.specs.declared.change.Change.TheVariants.{WriteRange, WriteRecord, PinSet}
use Rattle.file_rows.specs.declared.change.Change.TheVariants.{FileAdd, FileGone, FileState}
use Rattle.file_rows.specs.declared.change.Change.TheVariants.{FileSize}
use Rattle.file_rows.specs.declared.content.TheConstants.{QUOTA}
use Rattle.file_rows.specs.declared.pin.PinRow.{PinRow}
use Rattle.file_rows.specs.declared.row.FileRow.{FileRow}
use Rattle.uicc_tree.specs.Arena.{HasPlace, IsArena, StandsIn, body_room_of, files_of}
use Rattle.uicc_tree.specs.Files.{Files, IsLive, path_of, rows_of}
use Rattle.uicc_tree.specs.declared.arena.Arena.{Arena}
use Rattle.uicc_tree.specs.declared.room.Room.{Room}
use Rattle.uicc_tree.specs.declared.room.Room.TheVariants.{Nothing, Add, Size}

-- the files after a change of a content
abbrev pub rows_after : List FileRow → Change → List FileRow
rows_after rows change = (changed (record { rows = rows; pins = [] }) change).rows

-- the change fits a content of these files
abbrev pub FitsFiles : Files → Change → Type 0
FitsFiles tree change = (pins : List PinRow)
    × Fits (record { rows = rows_of tree; pins = pins }) change

-- the memory that the change needs is reserved
abbrev pub HasRoom : Files → Change → Type 0
HasRoom tree (WriteRange path offset bytes) = ⊤
HasRoom tree (WriteRecord path number bytes) = ⊤
HasRoom tree (PinSet set) = ⊤
HasRoom tree (FileAdd head) =
    (directory : Option ℕ) × StandsIn tree head.path directory
    × (tree.room ≡ Add directory head.size)
HasRoom tree (FileGone path) = ⊤
HasRoom tree (FileState path life) = ⊤
HasRoom tree (FileSize path size) =
    (node : ℕ) × IsLive tree node × (path_of tree node ≡ path) × (tree.room ≡ Size node size)

-- the file of this path is there after the change too
abbrev pub Outlives : List ℕ → Change → Type 0
Outlives path (FileGone top) = stands_below top path ≡ false
Outlives path _ = ⊤

-- the files of a card, or none
abbrev pub AreRows : List FileRow → Type 0
AreRows rows = AreFiles rows ⊎ (rows ≡ [])

-- a file's body is as long as its head says
pub record IsRow (row : FileRow) : Type 0 where
  pub file : IsFile row.head
  pub body : length row.body ≡ row.head.size

-- what is reserved is there
abbrev pub IsReady : Arena → List ℕ → Room → Type 0
IsReady arena spare Nothing = ⊤
IsReady arena spare (Add directory size) = HasPlace arena directory × (spare ≡ replicate size 255)
IsReady arena spare (Size node size) = size ≤ slice_index (body_room_of arena) node

-- what a tree keeps
pub record IsKept (held : Arena) (spare : List ℕ) (room : Room) : Type 0 where
  pub arena : IsArena held
  pub rows : AreRows (rows_of (files_of held))
  pub ready : IsReady held spare room

-- what a tree keeps that counts how much of the quota its files take
pub record IsCounted (held : Arena) (spare : List ℕ) (room : Room) (sum : ℕ) : Type 0 where
  pub kept : IsKept held spare room
  pub used : sum ≡ use_of (rows_of (files_of held))
  pub quota : use_of (rows_of (files_of held)) ≤ QUOTA

-- one file is changed, and each keeps its node and its path
pub record ChangesFile (old new : Arena) (path : List ℕ) (change : FileRow → FileRow) : Type 0 where
  pub arena : IsArena new
  pub rows : rows_of (files_of new) ≡ with_file path change (rows_of (files_of old))
  pub nodes : (files_of new).nodes ≡ (files_of old).nodes
  pub paths : (node : ℕ) → path_of (files_of new) node ≡ path_of (files_of old) node
