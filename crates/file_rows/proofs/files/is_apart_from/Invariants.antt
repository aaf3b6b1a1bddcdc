use Rattle.std.proofs.Common.{◌↔◌, drop}
use Rattle.std.specs.List.{AllByRecursion}
use Rattle.file_rows.specs.Apart.{AreFilesApart}
use Rattle.file_rows.proofs.files.is_apart_from.Given as goal

abbrev pub invariant-loop-row : goal.invariant-loop-row
invariant-loop-row l =
    AllByRecursion (λ row. AreFilesApart l.file row.head) (drop l.row-index l.later) ↔ AllByRecursion (λ row. AreFilesApart l.file row.head) l.later
