use Rattle.profile_card.proofs.StepLemmas.{unverified-Bound, unverified-Power, unverified-Reset}
use Rattle.profile_card.proofs.laws.verification_ends_with_the_session.Goals as goal

pub returns-clause-reset : goal.returns-clause-reset
returns-clause-reset c = unverified-Reset

pub returns-clause-power : goal.returns-clause-power
returns-clause-power c = unverified-Power

pub returns-clause-bound : goal.returns-clause-bound
returns-clause-bound c = unverified-Bound
