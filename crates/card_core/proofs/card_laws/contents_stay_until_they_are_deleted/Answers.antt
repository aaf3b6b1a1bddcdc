use Rattle.card_core.proofs.KeptLemmas.{event_keeps}
use Rattle.card_core.proofs.card_laws.contents_stay_until_they_are_deleted.Goals as goal

pub returns : goal.returns
returns c state event made profile are on held nowhere makes =
    event_keeps state are profile held nowhere event made on makes
