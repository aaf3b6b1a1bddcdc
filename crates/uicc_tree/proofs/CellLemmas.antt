use Rattle.std.proofs.Common.{◌≡◌, ℕ, ◌<◌, List, map, length, get_or, set, ◌∙◌, ap}
use Rattle.std.proofs.lemmas.List.{length-set, map-set}
use Rattle.file_rows.specs.declared.row.FileRow.{FileRow}
use Rattle.uicc_tree.specs.Arena.{ChangesCell, cell_of, files_of}
use Rattle.uicc_tree.specs.Files.{Files, file_of, no_file}
use Rattle.uicc_tree.specs.declared.arena.Arena.{Arena}
use Rattle.uicc_tree.specs.declared.arena.Slot.{Slot}
use Rattle.uicc_tree.specs.declared.room.Room.TheVariants.{Nothing}
use Rattle.uicc_tree.proofs.SlotLemmas.{map_at, map_set_same}

-- the file of a node is that of its slot
pub cell_at : (arena : Arena) (node : ℕ) (slot : Slot) → node < length arena.slots.items → slot ≡ get_or arena.slots.items node slot
    → file_of (files_of arena) node ≡ cell_of slot
cell_at arena node slot within at = map_at cell_of arena.slots.items node slot no_file within at

-- a slot with the same children and mark changes the file alone
pub changes_cell : (old new : Arena) (node : ℕ) (slot slot' : Slot) (row : FileRow) → slot ≡ get_or old.slots.items node slot
    → new.slots.items ≡ set old.slots.items node slot' → new.order.items ≡ old.order.items
    → slot'.children.items ≡ slot.children.items → slot'.live ≡ slot.live → cell_of slot' ≡ row → ChangesCell old new node row
changes_cell old new node slot slot' row at written nodes children live cell =
    let with_parts : List ℕ → List FileRow → Files = λ ns cells. record { nodes = ns; cells = cells; room = Nothing } in
    record {
      files = ap (λ (slots : List Slot). with_parts new.order.items (map cell_of slots)) written
          ∙ ap (with_parts new.order.items) (map-set cell_of old.slots.items node slot' ∙ ap (λ (r : FileRow). set (map cell_of old.slots.items) node r) cell)
          ∙ ap (λ (ns : List ℕ). with_parts ns (set (map cell_of old.slots.items) node row)) nodes;
      children = ap (λ (slots : List Slot). map (λ (s : Slot). s.children.items) slots) written
          ∙ map_set_same (λ (s : Slot). s.children.items) old.slots.items node slot slot' at children;
      marks = ap (λ (slots : List Slot). map (λ (s : Slot). s.live) slots) written
          ∙ map_set_same (λ (s : Slot). s.live) old.slots.items node slot slot' at live;
      few = ap (λ (slots : List Slot). length slots) written ∙ length-set old.slots.items node slot';
    }
