use Rattle.profile_card.proofs.OwnLemmas.{unknown_to_the_card}
use Rattle.profile_card.proofs.laws.common_commands_are_unknown_to_the_card.Goals as goal

pub returns : goal.returns
returns c = unknown_to_the_card
