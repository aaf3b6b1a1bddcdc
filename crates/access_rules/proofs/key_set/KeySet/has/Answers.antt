use Rattle.std.proofs.Common.{false, get_or, ap}
use Rattle.access_rules.specs.KeySet.{has}
use Rattle.access_rules.proofs.key_set.KeySet.has.Goals as goal

pub returns : goal.returns
unfolding has
returns c = ap (λ k. get_or c.args.self.now.keys k false) c.from.ensures
