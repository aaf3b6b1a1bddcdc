use Rattle.std.proofs.Common.{◌≡◌, ◌≤◌, ⊎_elim, ℕ, List, [], ◌∷◌, length, map, Contains, subst}
use Rattle.std.proofs.Common.{arith}
use Rattle.std.specs.List.{AllByRecursion}
use Rattle.fcp_codec.specs.Writing.{written_fcp}
use Rattle.file_rows.specs.Content.{heads_of}
use Rattle.file_rows.specs.FileHead.{IsFile}
use Rattle.file_rows.specs.declared.head.FileHead.{FileHead}
use Rattle.file_rows.specs.declared.pin.PinRow.{PinRow}
use Rattle.file_rows.specs.declared.row.FileRow.{FileRow}
use Rattle.file_rows.proofs.ListLemmas.{contains_cases}
use Rattle.uicc_tree.specs.Change.{AreRows}
use Rattle.uicc_tree.specs.Files.{Files, IsLive, file_of, rows_of}

-- what holds of each file's head holds of that of a node
at_node : (f : ℕ → FileRow) (nodes : List ℕ) (node : ℕ) → AllByRecursion IsFile (heads_of (map f nodes)) → Contains nodes node → IsFile (f node).head
at_node f [] node each there = absurd (omega (arith, there.1))
at_node f (n ∷ nodes) node each there =
    ⊎_elim (λ e. subst (λ (k : ℕ). IsFile (f k).head) e each.0) (λ later. at_node f nodes node each.1 later) (contains_cases n nodes node there)

nothing : (f : ℕ → FileRow) (nodes : List ℕ) (node : ℕ) → map f nodes ≡ [] → Contains nodes node → ⊥
nothing f [] node none there = omega (arith, there.1)
nothing f (n ∷ nodes) node none there = cc

none_there : (tree : Files) (node : ℕ) → rows_of tree ≡ [] → IsLive tree node → ⊥
none_there tree node none live = nothing (file_of tree) tree.nodes node none live

-- a file of a card has the form of one
pub live_is_file : (tree : Files) (node : ℕ) → AreRows (rows_of tree) → IsLive tree node → IsFile (file_of tree node).head
live_is_file tree node either live =
    ⊎_elim (λ files. at_node (file_of tree) tree.nodes node files.each live) (λ none. absurd (none_there tree node none live)) either

-- control parameters are never empty
pub written_some : (head : FileHead) (pins : List PinRow) → 1 ≤ length (written_fcp head pins)
written_some head pins = omega arith
