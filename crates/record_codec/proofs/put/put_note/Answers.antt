use Rattle.record_codec.proofs.WindowLemmas.{then}
use Rattle.record_codec.proofs.put.put_note.Goals as goal

pub returns-clause-puts : goal.returns-clause-puts
returns-clause-puts c = then c.put_number4.ensures.puts (then c.put_operation.ensures (then c.put.ensures c.put_text.ensures.puts))
