use Rattle.access_rules.specs.KeySet.{has}
use Rattle.access_rules.proofs.Keys.{none_read}
use Rattle.access_rules.proofs.key_set.KeySet.none.Goals as goal

pub returns : goal.returns
unfolding has
returns c = λ key. none_read 256 key
