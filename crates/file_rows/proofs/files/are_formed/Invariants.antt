use Rattle.std.proofs.Common.{◌≡◌, ◌↔◌, length, drop}
use Rattle.std.specs.List.{AllByRecursion}
use Rattle.file_rows.specs.FileHead.{IsFile}
use Rattle.file_rows.proofs.files.are_formed.Given as goal

abbrev pub invariant-loop-row : goal.invariant-loop-row
invariant-loop-row l =
    AllByRecursion (λ row. IsFile row.head × (length row.body ≡ row.head.size)) (drop l.row-index l.rows)
    ↔ AllByRecursion (λ row. IsFile row.head × (length row.body ≡ row.head.size)) l.rows
