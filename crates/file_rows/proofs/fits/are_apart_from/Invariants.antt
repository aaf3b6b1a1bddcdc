use Rattle.std.proofs.Common.{◌↔◌, drop}
use Rattle.std.specs.List.{AllByRecursion}
use Rattle.file_rows.specs.Apart.{AreFilesApart}
use Rattle.file_rows.proofs.fits.are_apart_from.Given as goal

abbrev pub invariant-loop-row : goal.invariant-loop-row
invariant-loop-row l =
    AllByRecursion (λ row. AreFilesApart row.head l.file) (drop l.row-index l.rows) ↔ AllByRecursion (λ row. AreFilesApart row.head l.file) l.rows
