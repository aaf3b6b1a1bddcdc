use Rattle.std.proofs.Common.{rules, ◌≡◌, ℕ, take, ◌∙◌}
use Rattle.std.proofs.lemmas.List.{take_all}
use Rattle.uicc_tree.specs.Arena.{children_of, files_of}
use Rattle.uicc_tree.specs.Files.{IsLive, path_of}
use Rattle.uicc_tree.proofs.TreeLemmas.{none_below, no_file_at, node_of_path}
use Rattle.uicc_tree.proofs.arena.Arena.find.Goals as goal

none : (c : goal.After-from_residual-in_err-node-2) → (node : ℕ) → IsLive (files_of c.args.self.now) node
    → path_of (files_of c.args.self.now) node ≡ c.args.path.now → ⊥
none c =
    let arena = c.args.self.now in
    none_below (files_of arena) (children_of arena) c.requires.arena.tree c.args.path.now c.loop-id.id-index c.loop-id.node
    c.loop-id-test.true c.loop-id.invariant.1 c.in_err-node-2.ensures.none

pub returns-in_err-node-2-clause-none : goal.returns-in_err-node-2-clause-none
returns-in_err-node-2-clause-none c = search (rules, none c)

pub returns-in_err-node-2-clause-no_file : goal.returns-in_err-node-2-clause-no_file
returns-in_err-node-2-clause-no_file c = search (rules, no_file_at (files_of c.args.self.now) c.args.path.now (none c))

pub returns-clause-node : goal.returns-clause-node
returns-clause-node c =
    let arena = c.args.self.now in
    let whole : take c.loop-id.id-index c.args.path.now ≡ c.args.path.now = take_all c.loop-id.id-index c.args.path.now c.loop-id-test.false in
    node_of_path (files_of arena) (children_of arena) c.requires.arena.tree c.args.path.now c.loop-id.node c.loop-id.invariant.0 (c.loop-id.invariant.1 ∙ whole)
