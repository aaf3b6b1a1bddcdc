use Rattle.std.specs.Prelude.{ℕ, Bool, true, false, not, ◌==◌, filter, nat_lt, if◌then◌else◌, ◌+◌}
use Rattle.std.specs.Prelude.{◌≡◌, ◌≢◌, ◌⊎◌, ◌<◌, ◌^◌, List, ◌∷◌, [], ◌++◌, map, length}
use Rattle.std.specs.Prelude.{vec_capacity, IsTrue, All, slice_index_or, slice_get, slice_set}
use Rattle.std.specs.Prelude.{Option, Some, None}
use Rattle.file_rows.specs.Path.{IsIn, is_in, master, stands_below}
use Rattle.file_rows.specs.declared.row.FileRow.{FileRow}
use Rattle.uicc_tree.specs.Files.{Files, IsLive, file_of, path_of}
use Rattle.uicc_tree.specs.declared.room.Room.TheVariants.{Nothing}
use Rattle.uicc_tree.specs.declared.arena.Arena.{Arena}
use Rattle.uicc_tree.specs.declared.arena.Slot.{Slot}

abbrev pub cell_of : Slot → FileRow
cell_of slot = record { head = slot.head; body = slot.body.items }

-- the files that an arena holds
abbrev pub files_of : Arena → Files
files_of arena = record {
  nodes = arena.order.items;
  cells = map cell_of arena.slots.items;
  room =
      Nothing;
}

-- the children of each node
abbrev pub children_of : Arena → List (List ℕ)
children_of arena = map (λ slot. slot.children.items) arena.slots.items

abbrev pub children_at : List (List ℕ) → ℕ → List ℕ
children_at children node = slice_index_or children node []

-- the nodes of the files in a directory, in the order of creation
abbrev pub children_in : Files → List ℕ → List ℕ
children_in tree directory = filter (λ node. is_in directory (path_of tree node)) tree.nodes

-- the files make one tree, and each node knows its children
pub record IsTree (tree : Files) (children : List (List ℕ)) : Type 0 where
  pub in_range : All (λ node. node < length tree.cells) tree.nodes
  -- the first file is the MF
  pub root : (node : ℕ) → slice_get tree.nodes 0 ≡ Some node → path_of tree node ≡ master
  -- each file stands in another one
  pub closed : (node : ℕ) (directory : List ℕ) (id : ℕ) → IsLive tree node
      → path_of tree node ≡ directory ++ id ∷ []
      → (above : ℕ) × IsLive tree above × (path_of tree above ≡ directory)
  pub distinct : (one other : ℕ) → IsLive tree one → IsLive tree other
      → path_of tree one ≡ path_of tree other → one ≡ other
  -- each node lists the files in it, in the order of creation
  pub child_list : (node : ℕ) → IsLive tree node
      → children_at children node ≡ children_in tree (path_of tree node)

-- whether each node is that of a file
abbrev pub marks_of : Arena → List Bool
marks_of arena = map (λ slot. slot.live) arena.slots.items

abbrev pub mark_at : List Bool → ℕ → Bool
mark_at marks node = slice_index_or marks node false

pub record IsArena (arena : Arena) : Type 0 where
  pub tree : IsTree (files_of arena) (children_of arena)
  pub marked : (node : ℕ) → IsLive (files_of arena) node → mark_at (marks_of arena) node ≡ true
  pub few : length arena.slots.items < 2 ^ 32

-- a file of this path stands in one of the tree, or alone as its MF
abbrev pub HasDirectory : Files → List ℕ → Type 0
HasDirectory tree path =
    ((tree.nodes ≡ []) × (path ≡ master))
    ⊎ ((above : ℕ) × IsLive tree above × IsIn (path_of tree above) path)

-- this is the node of the file in which it stands, and none for the MF
abbrev pub StandsIn : Files → List ℕ → Option ℕ → Type 0
StandsIn tree path directory = ((directory ≡ None) × (tree.nodes ≡ []) × (path ≡ master))
    ⊎ ((above : ℕ) × (directory ≡ Some above) × IsLive tree above × IsIn (path_of tree above) path)

-- a file of this path is new, and stands there
pub record CanStand (tree : Files) (path : List ℕ) (directory : Option ℕ) : Type 0 where
  pub new : (node : ℕ) → IsLive tree node → path_of tree node ≢ path
  pub place : StandsIn tree path directory

-- the new tree has one more node, which is a child of the directory, and all else as the old one
pub record AddsNode (old new : Files) (were are : List (List ℕ)) (node : ℕ) (row : FileRow)
    (directory : Option ℕ) : Type 0 where
  pub nodes : new.nodes ≡ old.nodes ++ node ∷ []
  pub in_range : (other : ℕ) → IsLive new other → other < length new.cells
  pub fresh : ¬ IsLive old node
  pub file : file_of new node ≡ row
  pub files : (other : ℕ) → IsLive old other → file_of new other ≡ file_of old other
  pub alone : children_at are node ≡ []
  pub named : (above : ℕ) → IsLive old above → directory ≡ Some above
      → children_at are above ≡ children_at were above ++ node ∷ []
  pub others : (other : ℕ) → IsLive old other → directory ≢ Some other
      → children_at are other ≡ children_at were other

-- the node is that of no file
abbrev pub IsFree : Arena → ℕ → Type 0
IsFree arena node = (node < length arena.slots.items) × (mark_at (marks_of arena) node ≡ false)

-- there is a node for one more file
abbrev pub HasNode : Arena → Type 0
HasNode arena = ((node : ℕ) × IsFree arena node)
    ⊎ ((length arena.slots.items < vec_capacity arena.slots)
    × (length arena.slots.items + 1 < 2 ^ 32))

-- memory for one more child of each node
abbrev pub child_room_of : Arena → List Bool
child_room_of arena = map
    (λ slot. nat_lt (length slot.children.items) slot.children.capacity) arena.slots.items

-- there is a node, and memory to name it, for one more file in the directory
pub record HasPlace (arena : Arena) (directory : Option ℕ) : Type 0 where
  pub node : HasNode arena
  pub order : length arena.order.items < vec_capacity arena.order
  pub child : (above : ℕ) → directory ≡ Some above
      → IsTrue (slice_index_or (child_room_of arena) above false)

-- the new arena has one more node, which is in no list of children, and all else as the old one
pub record Stores (old new : Arena) (slot : Slot) (node : ℕ) : Type 0 where
  pub nodes : new.order.items ≡ old.order.items ++ node ∷ []
  pub fresh : ¬ IsLive (files_of old) node
  pub stored : slice_get new.slots.items node ≡ Some slot
  pub others : (other : ℕ) → other ≢ node
      → slice_get new.slots.items other ≡ slice_get old.slots.items other
  pub few : length new.slots.items < 2 ^ 32

-- the files, with another one at a node
abbrev pub with_cell : Files → ℕ → FileRow → Files
with_cell tree node row = record tree { cells = slice_set tree.cells node row }

-- the body of a node has room for so many bytes
abbrev pub body_room_of : Arena → List ℕ
body_room_of arena = map (λ slot. vec_capacity slot.body) arena.slots.items

-- one node holds another file, and all else is as it was
pub record ChangesCell (old new : Arena) (node : ℕ) (row : FileRow) : Type 0 where
  pub files : files_of new ≡ with_cell (files_of old) node row
  pub children : children_of new ≡ children_of old
  pub marks : marks_of new ≡ marks_of old
  pub few : length new.slots.items ≡ length old.slots.items

-- the slot of a node after the file of this path and node, with all below it, is gone
pub record IsPruned (top : List ℕ) (gone : ℕ) (old new : Slot) : Type 0 where
  pub below : stands_below top old.head.path ≡ true → new.live ≡ false
  pub live : stands_below top old.head.path ≡ false → new.live ≡ old.live
  pub cell : stands_below top old.head.path ≡ false → cell_of new ≡ cell_of old
  pub children : stands_below top old.head.path ≡ false
      → new.children.items ≡ filter (λ child. not (child == gone)) old.children.items

-- each slot is so, from a node on or up to it
abbrev pub ArePruned : List ℕ → ℕ → List Slot → List Slot → ℕ → Type 0
ArePruned top gone old new upto =
    (node : ℕ) (slot : Slot) → slice_get old node ≡ Some slot → node < upto
    → (after : Slot) × (slice_get new node ≡ Some after) × IsPruned top gone slot after

-- all that contracts see of an arena is as it was
pub record SameNodes (old new : Arena) : Type 0 where
  pub files : files_of new ≡ files_of old
  pub children : children_of new ≡ children_of old
  pub marks : marks_of new ≡ marks_of old
  pub few : length new.slots.items ≡ length old.slots.items

-- how much of the quota a file takes that doesn't stand below the one on top
abbrev pub use_outside : List ℕ → FileRow → ℕ
use_outside top row = if stands_below top row.head.path then 0 else length row.body + 32
