use Rattle.record_codec.proofs.WindowLemmas.{then}
use Rattle.record_codec.proofs.put.put_labels.Goals as goal

pub returns-clause-puts : goal.returns-clause-puts
returns-clause-puts c = then c.put_text.ensures.puts (then c.put_text-2.ensures.puts c.put_text-3.ensures.puts)
