use Rattle.record_codec.proofs.WindowLemmas.{then}
use Rattle.record_codec.proofs.writing.put_profile_front.Goals as goal

pub returns-clause-puts : goal.returns-clause-puts
returns-clause-puts c =
    then c.put_byte.ensures.puts
    (then c.put_flag.ensures (then c.put_profile_head.ensures.puts c.put_port_option.ensures.puts))
