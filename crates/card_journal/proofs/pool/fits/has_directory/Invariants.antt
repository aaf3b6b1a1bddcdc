use Rattle.std.proofs.Common.{◌↔◌, drop}
use Rattle.std.specs.Prelude.{Any}
use Rattle.file_rows.specs.FileHead.{Holds}
use Rattle.card_journal.proofs.pool.fits.has_directory.Given as goal

abbrev pub invariant-loop-head : goal.invariant-loop-head
invariant-loop-head l =
    Any (λ directory. Holds directory l.file) (drop l.head-index l.heads)
    ↔ Any (λ directory. Holds directory l.file) l.heads
