use Rattle.std.proofs.Common.{◌∙◌}
use Rattle.uicc_tree.specs.Files.{file_of, rows_of}
use Rattle.uicc_select.proofs.FoundLemmas.{found_through-next}
use Rattle.uicc_select.proofs.find.find_through.Goals as goal

pub loop-id-preserved : goal.loop-id-preserved
loop-id-preserved c = (
  c.in_ok-node.ensures.0,
  found_through-next (rows_of c.args.tree.now) c.args.ids.now c.loop-id.id-index (file_of c.args.tree.now c.loop-id.node) (file_of c.args.tree.now c.in_ok-node.node) c.loop-id-test.true c.in_ok-node.ensures.1
      ∙ c.loop-id.invariant.1,
)
