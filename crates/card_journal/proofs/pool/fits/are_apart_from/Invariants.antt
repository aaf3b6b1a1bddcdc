use Rattle.std.proofs.Common.{◌↔◌, drop}
use Rattle.std.specs.List.{AllByRecursion}
use Rattle.file_rows.specs.Apart.{AreFilesApart}
use Rattle.card_journal.proofs.pool.fits.are_apart_from.Given as goal

abbrev pub invariant-loop-head : goal.invariant-loop-head
invariant-loop-head l =
    AllByRecursion (λ head. AreFilesApart head l.file) (drop l.head-index l.heads)
    ↔ AllByRecursion (λ head. AreFilesApart head l.file) l.heads
