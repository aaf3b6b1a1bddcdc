use Rattle.std.proofs.Common.{arith, ◌<◌, sym, ◌∙◌, ap}
use Rattle.uicc_tree.specs.Arena.{children_of, files_of}
use Rattle.uicc_tree.proofs.TreeLemmas.{in_slots, child_at, child_of_id, child_place, node_of_path}
use Rattle.uicc_tree.proofs.TreeLemmas.{no_file_at}
use Rattle.uicc_tree.proofs.arena.Arena.child_with.Goals as goal

pub head-requires : goal.head-requires
head-requires c =
    in_slots c.args.self.now c.requires.arena _
    (child_at c.args.self.now c.requires.arena c.args.node c.requires.live c.children-child-items.result.now c.children-child-items.ensures c.loop-child.child-index c.loop-child-test.true).0

pub returns-then-ends_with-clause-found : goal.returns-then-ends_with-clause-found
returns-then-ends_with-clause-found c =
    let child = child_at c.args.self.now c.requires.arena c.args.node c.requires.live c.children-child-items.result.now c.children-child-items.ensures c.loop-child.child-index c.loop-child-test.true in
    let ends = c.ends_with.ensures.0 c.if-ends_with.true in
    (child.0, child_of_id _ _ c.args.id child.1 (ends.0, ap (λ h. h.path) (sym c.head.ensures) ∙ sym c.as_slice.ensures.value ∙ ends.1))

pub returns-then-ends_with-clause-node : goal.returns-then-ends_with-clause-node
returns-then-ends_with-clause-node c =
    let found = returns-then-ends_with-clause-found c in
    node_of_path (files_of c.args.self.now) (children_of c.args.self.now) c.requires.arena.tree _ _ found.0 found.1

pub returns-clause-none : goal.returns-clause-none
returns-clause-none c child live path =
    let place = child_place c.args.self.now c.requires.arena c.args.node c.requires.live c.children-child-items.result.now c.children-child-items.ensures child live (c.args.id, path) in
    let within : place.0 < c.loop-child.child-index = omega (arith, place.1) in
    c.loop-child.invariant place.0 within (rw place.2 path)

pub returns-clause-no_file : goal.returns-clause-no_file
returns-clause-no_file c = no_file_at (files_of c.args.self.now) _ (returns-clause-none c)
