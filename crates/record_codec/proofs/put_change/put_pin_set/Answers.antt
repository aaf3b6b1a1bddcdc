use Rattle.record_codec.proofs.WindowLemmas.{then}
use Rattle.record_codec.proofs.put_change.put_pin_set.Goals as goal

pub returns-clause-puts : goal.returns-clause-puts
returns-clause-puts c = then c.put_byte.ensures.puts c.put_pin.ensures.puts
