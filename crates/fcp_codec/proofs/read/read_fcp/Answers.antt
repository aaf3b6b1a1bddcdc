use Rattle.fcp_codec.proofs.Answering.{one_answer}
use Rattle.fcp_codec.proofs.read.read_fcp.Goals as goal

pub returns-clause-only : goal.returns-clause-only
returns-clause-only c = λ other. one_answer c.args.value.now _ other c.answer_of.ensures
