use Rattle.std.proofs.Common.{arith, ◌<◌, ap, sym, ◌∙◌}
use Rattle.uicc_tree.proofs.TreeLemmas.{in_slots, child_at, child_place}
use Rattle.uicc_tree.proofs.arena.Arena.child_with_sfi.Goals as goal

pub head-requires : goal.head-requires
head-requires c =
    in_slots c.args.self.now c.requires.arena _
    (child_at c.args.self.now c.requires.arena c.args.node c.requires.live c.children-child-items.result.now c.children-child-items.ensures c.loop-child.child-index c.loop-child-test.true).0

pub returns-clause-none : goal.returns-clause-none
returns-clause-none c file has =
    let place = child_place c.args.self.now c.requires.arena c.args.node c.requires.live c.children-child-items.result.now c.children-child-items.ensures file has.0 has.1 in
    let within : place.0 < c.loop-child.child-index = omega (arith, place.1) in
    c.loop-child.invariant.1 place.0 within (rw place.2 has.3)

pub returns-then-head-sfi-clause-found : goal.returns-then-head-sfi-clause-found
returns-then-head-sfi-clause-found c =
    let child = child_at c.args.self.now c.requires.arena c.args.node c.requires.live c.children-child-items.result.now c.children-child-items.ensures c.loop-child.child-index c.loop-child-test.true in
    (child.0, child.1, c.loop-child.invariant.0, ap (λ h. h.sfi) (sym c.head.ensures) ∙ c.if-head-sfi.true)
