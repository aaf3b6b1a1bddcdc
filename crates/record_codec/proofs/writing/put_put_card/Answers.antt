use Rattle.record_codec.specs.Fields.{byte, plain}
use Rattle.record_codec.specs.Spelling.{mode}
use Rattle.record_codec.proofs.WindowLemmas.{then_four}
use Rattle.record_codec.proofs.writing.put_put_card.Goals as goal

pub returns-clause-puts : goal.returns-clause-puts
returns-clause-puts c = then_four (byte 1) (mode c.args.how) (byte c.args.ports) (plain c.args.eid.now) c.put_card.ensures.puts c.put_card_notes.ensures.puts
