use Rattle.std.proofs.Common.{◌<◌, length, arith}
use Rattle.access_rules.specs.KeySet.{has}
use Rattle.access_rules.proofs.Keys.{put_read}
use Rattle.access_rules.proofs.key_set.KeySet.put.Goals as goal

pub returns : goal.returns
unfolding has
returns c = λ other.
    let within : c.args.key < length c.args.self.now.keys = omega (arith, c.args.self.now.every) in
    rw c.from.ensures (put_read c.args.self.now.keys c.args.key other c.args.is_in within)
