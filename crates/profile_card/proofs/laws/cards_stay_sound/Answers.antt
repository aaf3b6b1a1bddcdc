use Rattle.profile_card.proofs.StepLemmas.{IsSound-Steps}
use Rattle.profile_card.proofs.laws.cards_stay_sound.Goals as goal

pub returns-clause-sound : goal.returns-clause-sound
returns-clause-sound c card event outcome sound steps = IsSound-Steps card sound event outcome steps

pub returns-clause-quota : goal.returns-clause-quota
returns-clause-quota c card event outcome sound steps = (IsSound-Steps card sound event outcome steps).content.quota
