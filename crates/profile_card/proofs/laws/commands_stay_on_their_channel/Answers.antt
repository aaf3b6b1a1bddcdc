use Rattle.profile_card.proofs.StayLemmas.{others-decision}
use Rattle.profile_card.proofs.laws.commands_stay_on_their_channel.Goals as goal

pub returns : goal.returns
returns c card command no_manage no_resize = others-decision card command no_manage no_resize
