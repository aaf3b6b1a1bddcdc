use Rattle.fcp_codec.proofs.Again.{again}
use Rattle.fcp_codec.proofs.laws.written_is_read.Goals as goal

pub returns : goal.returns
returns c = again
