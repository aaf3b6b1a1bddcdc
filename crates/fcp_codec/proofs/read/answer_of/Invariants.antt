use Rattle.fcp_codec.proofs.Answering.{Progress}
use Rattle.fcp_codec.proofs.read.answer_of.Given as goal

abbrev pub invariant-loop-item : goal.invariant-loop-item
invariant-loop-item l = Progress l.value l.item-iterator l.fields
