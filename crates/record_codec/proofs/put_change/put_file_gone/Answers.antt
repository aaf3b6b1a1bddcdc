use Rattle.record_codec.proofs.WindowLemmas.{then}
use Rattle.record_codec.proofs.put_change.put_file_gone.Goals as goal

pub returns-clause-puts : goal.returns-clause-puts
returns-clause-puts c = then c.put_byte.ensures.puts c.put_path.ensures.puts
