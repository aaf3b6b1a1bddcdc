use Rattle.std.proofs.Common.{◌∙◌}
use Rattle.uicc_tree.specs.Files.{file_of}
use Rattle.uicc_data.proofs.SearchLemmas.{found_more, length_more}
use Rattle.uicc_data.proofs.search.find_from.Goals as goal

pub loop-steps-preserved : goal.loop-steps-preserved
loop-steps-preserved c = (
  rw (c.push_if.ensures, c.holds_run-holds.ensures, c.record_bytes.ensures.value, c.after_steps-at.ensures.value)
      (found_more (file_of c.args.tree.now c.args.node) c.args.run.now c.args.direction c.args.number c.loop-steps.steps c.records_left-left.result c.loop-steps.found c.loop-steps-test.true
      ∙ c.loop-steps.invariant.0),
  rw c.push_if.ensures (length_more c.loop-steps.found c.holds_run-holds.result c.after_steps-at.result c.loop-steps.steps c.loop-steps.invariant.1),
)
