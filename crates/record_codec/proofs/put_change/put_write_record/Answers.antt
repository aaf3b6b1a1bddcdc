use Rattle.record_codec.proofs.WindowLemmas.{then}
use Rattle.record_codec.proofs.put_change.put_write_record.Goals as goal

pub returns-clause-puts : goal.returns-clause-puts
returns-clause-puts c = then c.put_byte.ensures.puts (then c.put_path.ensures.puts (then c.put_byte-2.ensures.puts c.put_text.ensures.puts))
