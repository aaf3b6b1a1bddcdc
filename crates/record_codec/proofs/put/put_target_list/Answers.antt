use Rattle.record_codec.proofs.WindowLemmas.{then}
use Rattle.record_codec.proofs.put.put_target_list.Goals as goal

pub returns-clause-puts : goal.returns-clause-puts
returns-clause-puts c = rw (← c.len.ensures.value, ← c.as_slice.ensures.value) (then c.put_number2.ensures.puts c.put_targets.ensures.puts)
