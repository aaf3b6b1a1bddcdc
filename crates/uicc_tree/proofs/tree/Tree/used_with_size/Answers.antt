use Rattle.std.proofs.Common.{◌≡◌, ◌+◌, List, ◌∙◌, arith, ap}
use Rattle.file_rows.specs.Change.{with_file, with_size}
use Rattle.file_rows.specs.Content.{use_of}
use Rattle.file_rows.specs.declared.head.FileHead.{FileHead}
use Rattle.file_rows.specs.declared.row.FileRow.{FileRow}
use Rattle.uicc_tree.specs.Arena.{files_of}
use Rattle.uicc_tree.specs.Files.{file_of, rows_of}
use Rattle.uicc_tree.proofs.UsedLemmas.{used_sized}
use Rattle.uicc_tree.proofs.tree.Tree.used_with_size.Goals as goal

-- what is taken after the change, and what the file took, are what was taken and what it takes
sums : (c : goal.After-from-in-Some) → use_of (with_file c.args.path.now (with_size c.args.size) (rows_of c.args.self.now)) + c.from-in-Some.result ≡ c.self.inside.used + c.from.result
sums c =
    let tree = files_of c.self.inside.arena in
    let row = file_of tree c.in-Some.node in
    let same = ap rows_of c.self.view_is in
    let after : use_of (with_file c.args.path.now (with_size c.args.size) (rows_of tree)) + row.head.size ≡ use_of (rows_of tree) + c.args.size
    = used_sized (rows_of tree) c.self.invariant.kept.rows c.args.path.now row c.in-Some.ensures.node.1 c.args.size in
    let now : use_of (with_file c.args.path.now (with_size c.args.size) (rows_of tree)) ≡ use_of (with_file c.args.path.now (with_size c.args.size) (rows_of c.args.self.now))
    = ap (λ (rows : List FileRow). use_of (with_file c.args.path.now (with_size c.args.size) rows)) same in
    let size : c.from-in-Some.result ≡ row.head.size = c.from-in-Some.ensures ∙ ap (λ (h : FileHead). h.size) c.head.ensures in
    omega (arith, after, now, size, c.from.ensures, c.self.invariant.used)

pub overflow_sub-result : goal.overflow_sub-result
overflow_sub-result c = omega (arith, sums c)

pub returns-in-Some : goal.returns-in-Some
returns-in-Some c = omega (arith, sums c)
