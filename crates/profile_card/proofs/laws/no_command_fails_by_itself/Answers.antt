use Rattle.profile_card.proofs.FailingLemmas.{steps_fine}
use Rattle.profile_card.proofs.laws.no_command_fails_by_itself.Goals as goal

pub returns : goal.returns
returns c = steps_fine
