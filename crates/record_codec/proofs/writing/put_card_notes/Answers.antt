use Rattle.record_codec.proofs.WindowLemmas.{then}
use Rattle.record_codec.proofs.writing.put_card_notes.Goals as goal

pub returns-clause-puts : goal.returns-clause-puts
returns-clause-puts c = then c.put_number4.ensures.puts (then c.put_number8.ensures.puts c.put_note_list.ensures.puts)
