use Rattle.profile_card.proofs.RunLemmas.{Steps-once, Steps-some}
use Rattle.profile_card.proofs.laws.events_have_one_outcome.Goals as goal

pub returns-clause-some : goal.returns-clause-some
returns-clause-some c = Steps-some

pub returns-clause-once : goal.returns-clause-once
returns-clause-once c = Steps-once
