use Rattle.record_codec.proofs.WindowLemmas.{then}
use Rattle.record_codec.proofs.writing.put_pin_list.Goals as goal

pub returns-clause-puts : goal.returns-clause-puts
returns-clause-puts c = then c.put_number2.ensures.puts c.put_pins.ensures.puts
