use Rattle.std.proofs.Common.{◌≡◌, ℕ, ◌≤◌, length}
use Rattle.std.specs.Prelude.{slice_get}
use Rattle.uicc_tree.specs.Arena.{ArePruned}
use Rattle.uicc_tree.proofs.arena.Arena.prune_all.Given as goal

abbrev pub invariant-loop-node : goal.invariant-loop-node
invariant-loop-node l =
    ArePruned l.top l.gone l.initial.self.slots.items l.self.slots.items l.node
    × (length l.self.slots.items ≡ length l.initial.self.slots.items)
    × (l.self.order ≡ l.initial.self.order)
    × ((other : ℕ) → l.node ≤ other → slice_get l.self.slots.items other ≡ slice_get l.initial.self.slots.items other)
