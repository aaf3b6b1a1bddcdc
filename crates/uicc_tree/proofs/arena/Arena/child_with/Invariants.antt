use Rattle.std.proofs.Common.{◌≢◌, ℕ, ◌<◌, [], ◌∷◌, ◌++◌, get_or}
use Rattle.uicc_tree.specs.Arena.{files_of}
use Rattle.uicc_tree.specs.Files.{path_of}
use Rattle.uicc_tree.proofs.arena.Arena.child_with.Given as goal

abbrev pub invariant-loop-child : goal.invariant-loop-child
invariant-loop-child l = (k : ℕ) → k < l.child-index
    → path_of (files_of l.self) (get_or l.child-items k 0) ≢ path_of (files_of l.self) l.node ++ l.id ∷ []
