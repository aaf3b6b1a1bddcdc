use Rattle.std.specs.Prelude.{false}
use Rattle.record_codec.specs.Fields.{byte, flag, option}
use Rattle.record_codec.specs.Spelling.{profile_head}
use Rattle.record_codec.proofs.WindowLemmas.{then, then_four}
use Rattle.record_codec.proofs.writing.put_pooled_profile.Goals as goal

pub returns-clause-puts : goal.returns-clause-puts
returns-clause-puts c =
    then_four (byte 2) (flag false) (profile_head c.args.head.now) (option byte c.args.port)
    c.put_profile_front.ensures.puts
    (then c.put_pooled_list.ensures.puts (c.put_pin_list.ensures.puts))
