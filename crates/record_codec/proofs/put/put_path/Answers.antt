use Rattle.record_codec.proofs.WindowLemmas.{then}
use Rattle.record_codec.proofs.put.put_path.Goals as goal

pub returns-clause-puts : goal.returns-clause-puts
returns-clause-puts c = rw (← c.len.ensures.value, ← c.as_slice.ensures.value) (then c.put_byte.ensures.puts c.put_numbers.ensures.puts)
