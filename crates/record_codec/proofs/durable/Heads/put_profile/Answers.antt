use Rattle.record_codec.proofs.PortLemmas.{may_bind}
use Rattle.record_codec.proofs.durable.Heads.put_profile.Goals as goal

pub bind_where-requires : goal.bind_where-requires
bind_where-requires c = may_bind c.args.self.now c.args.installation c.args.head.now c.args.port c.requires.are c.requires.new
