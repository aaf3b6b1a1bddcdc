use Rattle.std.proofs.Common.{is_some, map, find, sym, ◌∙◌, ap}
use Rattle.std.proofs.lemmas.List.{take_all}
use Rattle.uicc_tree.specs.Arena.{children_of, files_of}
use Rattle.uicc_tree.specs.Files.{file_of}
use Rattle.uicc_tree.proofs.FindLemmas.{find_at, find_more}
use Rattle.uicc_tree.proofs.NameLemmas.{has_name, has_name_head, name_in_master}
use Rattle.uicc_tree.proofs.TreeLemmas.{child_at, in_slots}
use Rattle.uicc_tree.proofs.arena.Arena.has_name.Goals as goal

pub head-requires : goal.head-requires
head-requires c =
    in_slots c.args.self.now c.requires.arena _
    (child_at c.args.self.now c.requires.arena c.in-Some.master c.in-Some.ensures.found.0 c.children-child-items.result.now c.children-child-items.ensures c.loop-child.child-index c.loop-child-test.true).0

pub returns-then-has_name : goal.returns-then-has_name
returns-then-has_name c =
    let tree = files_of c.args.self.now in
    let items = c.children-child-items.result.now in
    let passes = ap (has_name_head c.args.name.now) (sym c.head.ensures) ∙ sym c.has_name.ensures ∙ c.if-has_name.true in
    sym (ap is_some (sym (name_in_master tree (children_of c.args.self.now) c.requires.arena.tree c.requires.rows c.args.name.now c.in-Some.master c.in-Some.ensures.found.0 c.in-Some.ensures.found.1
    items c.children-child-items.ensures)
    ∙ find_at (file_of tree) (has_name c.args.name.now) items c.loop-child.child-index c.loop-child-test.true c.loop-child.invariant passes))

pub loop-child-preserved : goal.loop-child-preserved
loop-child-preserved c =
    find_more (file_of (files_of c.args.self.now)) (has_name c.args.name.now) c.children-child-items.result.now c.loop-child.child-index c.loop-child-test.true c.loop-child.invariant
    (ap (has_name_head c.args.name.now) (sym c.head.ensures) ∙ sym c.has_name.ensures ∙ c.if-has_name.false)

pub returns : goal.returns
returns c =
    let tree = files_of c.args.self.now in
    let items = c.children-child-items.result.now in
    sym (ap is_some (sym (name_in_master tree (children_of c.args.self.now) c.requires.arena.tree c.requires.rows c.args.name.now c.in-Some.master c.in-Some.ensures.found.0 c.in-Some.ensures.found.1
    items c.children-child-items.ensures)
    ∙ ap (λ ns. find (has_name c.args.name.now) (map (file_of tree) ns)) (sym (take_all c.loop-child.child-index items c.loop-child-test.false)) ∙ c.loop-child.invariant))
