use Rattle.std.proofs.Common.{◌≢◌, ℕ, ◌<◌, get_or}
use Rattle.uicc_tree.specs.Arena.{files_of}
use Rattle.uicc_tree.specs.Files.{file_of}
use Rattle.uicc_tree.proofs.arena.Arena.child_with_sfi.Given as goal

abbrev pub invariant-loop-child : goal.invariant-loop-child
invariant-loop-child l = (l.sfi ≢ 0) × ((k : ℕ) → k < l.child-index → (file_of (files_of l.self) (get_or l.child-items k 0)).head.sfi ≢ l.sfi)
