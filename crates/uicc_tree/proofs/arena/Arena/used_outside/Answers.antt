use Rattle.std.proofs.Common.{◌≡◌, ℕ, ◌+◌, ◌<◌, List, drop, get_or, length, map, arith, ap}
use Rattle.std.proofs.lemmas.List.Elements.{Contains-get_or}
use Rattle.file_rows.specs.Content.{use_of}
use Rattle.uicc_tree.specs.Arena.{files_of, use_outside}
use Rattle.uicc_tree.specs.Files.{file_of, rows_of}
use Rattle.uicc_tree.proofs.OutsideLemmas.{outside, outside_le, use_next, use_one}
use Rattle.uicc_tree.proofs.arena.Arena.used_outside.Goals as goal

pub use_outside-sum-requires-clause-short : goal.use_outside-sum-requires-clause-short
use_outside-sum-requires-clause-short c =
    let tree = files_of c.args.self.now in
    let nodes = c.deref-node-items.result.now in
    let all : use_of (map (file_of tree) nodes) ≡ use_of (rows_of tree) = ap (λ (ns : List ℕ). use_of (map (file_of tree) ns)) c.deref-node-items.ensures.value in
    omega (arith, use_one (file_of tree) nodes (get_or nodes c.loop-node.node-index 0) (Contains-get_or nodes c.loop-node.node-index 0 c.loop-node-test.true), all, c.requires.quota)

-- what is counted with the next file, and what is left
counted : (c : goal.After-use_outside-sum) → (c.loop-node.sum + c.use_outside-sum.result)
    + use_of (outside c.args.top.now (map (file_of (files_of c.args.self.now)) (drop (c.loop-node.node-index + 1) c.args.self.now.order.items))) ≡ use_of (outside c.args.top.now (rows_of (files_of c.args.self.now)))
counted c =
    let tree = files_of c.args.self.now in
    let nodes = c.args.self.now.order.items in
    let i = c.loop-node.node-index in
    let read = c.deref-node-items.result.now in
    let within : i < length nodes = omega (arith, c.loop-node-test.true, ap length c.deref-node-items.ensures.value) in
    let next = use_next (file_of tree) c.args.top.now nodes i within in
    let same : use_outside c.args.top.now (file_of tree (get_or read i 0)) ≡ use_outside c.args.top.now (file_of tree (get_or nodes i 0)) = ap (λ (ns : List ℕ). use_outside c.args.top.now (file_of tree (get_or ns i 0))) c.deref-node-items.ensures.value in
    omega (arith, c.loop-node.invariant, next, same, c.use_outside-sum.ensures)

pub overflow_add-sum : goal.overflow_add-sum
overflow_add-sum c = omega (arith, counted c, outside_le c.args.top.now (rows_of (files_of c.args.self.now)), c.requires.quota)

pub loop-node-preserved : goal.loop-node-preserved
loop-node-preserved c = counted c
