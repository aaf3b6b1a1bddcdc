use Rattle.record_codec.proofs.WindowLemmas.{then}
use Rattle.record_codec.proofs.window.put_string.Goals as goal

pub returns : goal.returns
returns c = then c.put_number2.ensures.puts c.put.ensures
