use Rattle.access_rules.proofs.Keeping.{still_recorded}
use Rattle.access_rules.proofs.laws.more_keys_allow_no_less.Goals as goal

pub returns : goal.returns
returns c = λ rows path mode fewer more grows allowed. still_recorded fewer more grows mode _ allowed
