use Rattle.record_codec.proofs.WindowLemmas.{then}
use Rattle.record_codec.proofs.put.put_pin.Goals as goal

pub returns-clause-puts : goal.returns-clause-puts
returns-clause-puts c = then c.put_byte.ensures.puts (then c.put_path.ensures.puts (then c.put_byte-2.ensures.puts (then c.put.ensures (then c.put_byte-3.ensures.puts (then c.put_byte-4.ensures.puts (then c.put_flag.ensures c.put_puk_option.ensures.puts))))))
