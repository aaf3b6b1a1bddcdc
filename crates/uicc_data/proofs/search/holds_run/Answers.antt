use Rattle.std.proofs.Common.{◌∙◌, sym}
use Rattle.file_rows.proofs.EachLemmas.{take_rest}
use Rattle.uicc_data.proofs.SearchLemmas.{no_run_here}
use Rattle.uicc_data.proofs.search.holds_run.Goals as goal

pub loop-start-preserved : goal.loop-start-preserved
loop-start-preserved c =
    no_run_here c.args.run.now c.args.bytes.now c.loop-start.start c.loop-start-test.true
    (sym (rw (take_rest c.args.bytes.now c.loop-start.start) at c.begins_with.ensures) ∙ c.if-begins_with.false)
    ∙ c.loop-start.invariant
