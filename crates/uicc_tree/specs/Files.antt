use Rattle.std.specs.Prelude.{ℕ, ◌≡◌, ◌≢◌, List, [], map, Option, Some, None, Contains}
use Rattle.std.specs.Prelude.{slice_index_or}
use Rattle.file_rows.specs.Content.{file_at}
use Rattle.file_rows.specs.Path.{IsIn}
use Rattle.file_rows.specs.declared.head.FileHead.{FileHead}
use Rattle.file_rows.specs.declared.head.Kind.TheVariants.{Transparent}
use Rattle.file_rows.specs.declared.head.Life.TheVariants.{Terminated}
use Rattle.file_rows.specs.declared.row.FileRow.{FileRow}
use Rattle.uicc_tree.specs.declared.room.Room.{Room}

-- what contracts see of a tree: the nodes of its files in the order in which they were made, what
-- each node holds, and what memory is reserved
pub record Files : Type 0 where
  pub nodes : List ℕ
  pub cells : List FileRow
  pub room : Room

-- what stands for the file of a node that isn't there
abbrev pub no_head : FileHead
no_head =
    record {
      path = [];
      kind = Transparent;
      life = Terminated;
      sfi = 0;
      name = [];
      rule = None;
      record_len = 0;
      size = 0;
    }

abbrev pub no_file : FileRow
no_file = record { head = no_head; body = [] }

-- the node is that of a file
abbrev pub IsLive : Files → ℕ → Type 0
IsLive tree node = Contains tree.nodes node

-- the file of a node
abbrev pub file_of : Files → ℕ → FileRow
file_of tree node = slice_index_or tree.cells node no_file

abbrev pub path_of : Files → ℕ → List ℕ
path_of tree node = (file_of tree node).head.path

-- the files, in the order in which they were made
abbrev pub rows_of : Files → List FileRow
rows_of tree = map (file_of tree) tree.nodes

-- the node is the one of the file of this path
abbrev pub IsNodeOf : Files → List ℕ → ℕ → Type 0
IsNodeOf tree path node = IsLive tree node
    × (file_at path (rows_of tree) ≡ Some (file_of tree node))

-- the node is that of a file in the directory with this short file identifier
abbrev pub HasSfi : Files → List ℕ → ℕ → ℕ → Type 0
HasSfi tree directory sfi node =
    IsLive tree node × IsIn directory (path_of tree node) × (sfi ≢ 0)
    × ((file_of tree node).head.sfi ≡ sfi)

-- the node is the file's, and there is none where there is no file
abbrev pub Gives : Files → Option ℕ → Option FileRow → Type 0
Gives tree None row = row ≡ None
Gives tree (Some node) row = IsLive tree node × (row ≡ Some (file_of tree node))
