use Rattle.std.proofs.Common.{arith, List, map, get_or, false, below_more, ap, sym, ◌∙◌}
use Rattle.std.proofs.lemmas.Bool.{true≢false}
use Rattle.uicc_tree.proofs.SlotLemmas.{map_at}
use Rattle.uicc_tree.specs.declared.arena.Slot.{Slot}
use Rattle.uicc_tree.proofs.arena.Arena.free_node.Goals as goal

pub returns-clause-none : goal.returns-clause-none
returns-clause-none c node free_node = true≢false (sym (c.loop-node.invariant node (omega (arith, free_node.0))) ∙ free_node.1)

pub loop-node-preserved : goal.loop-node-preserved
loop-node-preserved c =
    let value = c.deref-slot-items.ensures.value in
    below_more _ _ c.loop-node.invariant
    (ap (λ (slots : List Slot). get_or (map (λ slot. slot.live) slots) c.loop-node.node false) (sym value)
    ∙ map_at (λ slot. slot.live) c.deref-slot-items.result.now c.loop-node.node c.slot-item.result false c.loop-node-test.true c.slot-item.is
    ∙ c.if-not-slot.false)
