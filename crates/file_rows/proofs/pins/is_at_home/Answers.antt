use Rattle.std.proofs.Common.{◌≡◌, sym, ◌∙◌}
use Rattle.std.proofs.lemmas.Bool.{false≢true}
use Rattle.std.specs.Prelude.{IsTrue}
use Rattle.file_rows.specs.FileHead.{holds_files}
use Rattle.file_rows.specs.declared.row.FileRow.{FileRow}
use Rattle.file_rows.proofs.EachLemmas.{any_more}
use Rattle.file_rows.proofs.pins.is_at_home.Goals as goal

pub loop-row-preserved : goal.loop-row-preserved
loop-row-preserved c =
    any_more (λ (row : FileRow). row.head) (λ head. IsTrue (holds_files head.kind) × (head.path ≡ c.args.pin.now.home)) c.args.rows.now c.loop-row.row-index c.row-item.result
    c.loop-row-test.true c.row-item.is c.loop-row.invariant (λ home. false≢true (sym c.if-is_home.false ∙ c.is_home.ensures.1 home))
