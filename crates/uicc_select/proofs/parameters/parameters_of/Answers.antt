use Rattle.uicc_select.proofs.FileLemmas.{live_is_file, written_some}
use Rattle.uicc_select.proofs.parameters.parameters_of.Goals as goal

pub put_fcp-requires : goal.put_fcp-requires
put_fcp-requires c = rw c.head.ensures (live_is_file c.args.tree.now c.args.node c.requires.files c.requires.live)

pub returns-clause-some : goal.returns-clause-some
returns-clause-some c = rw c.put_fcp.ensures (written_some c.head.result.now c.args.pins.now)
