use Rattle.record_codec.proofs.WindowLemmas.{then}
use Rattle.record_codec.proofs.writing.put_bind.Goals as goal

pub returns-clause-puts : goal.returns-clause-puts
returns-clause-puts c = then c.put_byte.ensures.puts (then c.put_number2.ensures.puts (then c.put_byte-2.ensures.puts c.put_number_option.ensures.puts))
