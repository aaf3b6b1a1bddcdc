use Rattle.record_codec.specs.Fields.{string}
use Rattle.record_codec.proofs.WindowLemmas.{then, then_three}
use Rattle.record_codec.proofs.put.put_profile_head.Goals as goal

pub returns-clause-puts : goal.returns-clause-puts
returns-clause-puts c = then c.put_number2.ensures.puts (then c.put.ensures
    (then_three (string c.args.head.now.provider) (string c.args.head.now.name) (string c.args.head.now.nickname) c.put_labels.ensures.puts c.put_rules.ensures.puts))
