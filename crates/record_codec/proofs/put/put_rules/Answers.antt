use Rattle.record_codec.proofs.WindowLemmas.{then}
use Rattle.record_codec.proofs.put.put_rules.Goals as goal

pub returns-clause-puts : goal.returns-clause-puts
returns-clause-puts c = then c.put_byte.ensures.puts (then c.put_byte-2.ensures.puts c.put_target_list.ensures.puts)
