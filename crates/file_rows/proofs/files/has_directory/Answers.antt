use Rattle.std.proofs.Common.{sym, ◌∙◌}
use Rattle.std.proofs.lemmas.Bool.{false≢true}
use Rattle.file_rows.specs.FileHead.{Holds}
use Rattle.file_rows.specs.declared.row.FileRow.{FileRow}
use Rattle.file_rows.proofs.EachLemmas.{any_more}
use Rattle.file_rows.proofs.files.has_directory.Goals as goal

pub loop-row-preserved : goal.loop-row-preserved
loop-row-preserved c =
    any_more (λ (row : FileRow). row.head) (λ directory. Holds directory c.args.file.now) c.args.earlier.now c.loop-row.row-index c.row-item.result
    c.loop-row-test.true c.row-item.is c.loop-row.invariant (λ holds. false≢true (sym c.if-holds.false ∙ c.holds.ensures.1 holds))
