use Rattle.record_codec.proofs.WindowLemmas.{then}
use Rattle.record_codec.proofs.put.put_form.Goals as goal

pub returns-clause-puts : goal.returns-clause-puts
returns-clause-puts c = then c.put_path.ensures.puts (then c.put_kind.ensures (then c.put_life.ensures (then c.put_byte.ensures.puts (then c.put_text.ensures.puts (then c.put_rule_option.ensures.puts c.put_byte-2.ensures.puts)))))
