use Rattle.std.proofs.Common.{sym, ◌∙◌}
use Rattle.std.proofs.lemmas.Bool.{false≢true}
use Rattle.file_rows.specs.FileHead.{Holds}
use Rattle.file_rows.proofs.ListLemmas.{any_rest}
use Rattle.card_journal.proofs.pool.fits.has_directory.Goals as goal

pub loop-head-preserved : goal.loop-head-preserved
loop-head-preserved c =
    any_rest (λ directory. Holds directory c.args.file.now) c.args.heads.now c.loop-head.head-index
    c.head-item.result c.loop-head-test.true c.head-item.is c.loop-head.invariant
    (λ holds. false≢true (sym c.if-holds.false ∙ c.holds.ensures.1 holds))
