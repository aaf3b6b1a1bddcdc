use Rattle.std.proofs.Common.{◌≡◌, ℕ, ◌<◌, true}
use Rattle.uicc_tree.specs.Arena.{mark_at, marks_of}
use Rattle.uicc_tree.proofs.arena.Arena.free_node.Given as goal

abbrev pub invariant-loop-node : goal.invariant-loop-node
invariant-loop-node l = (k : ℕ) → k < l.node → mark_at (marks_of l.self) k ≡ true
