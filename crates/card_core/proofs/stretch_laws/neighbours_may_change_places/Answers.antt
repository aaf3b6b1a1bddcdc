use Rattle.card_core.proofs.CountedLemmas.{counted_local}
use Rattle.card_core.proofs.LocalLemmas.{stays_local}
use Rattle.card_core.proofs.NeighbourLemmas.{places_change_counted, places_change_staying}
use Rattle.card_core.proofs.SoundLemmas.{sound_card}
use Rattle.card_core.proofs.stretch_laws.neighbours_may_change_places.Goals as goal

pub returns-clause-unshared : goal.returns-clause-unshared
returns-clause-unshared c state port other event another failed fails one two sound apart stays
    happens then_stays then_happens =
    places_change_staying state sound port other apart event another failed fails one two
    (stays_local port state (sound_card state sound port) failed event one stays happens)
    then_stays then_happens

pub returns-clause-counted : goal.returns-clause-counted
returns-clause-counted c state port other event another failed fails one two sound apart comes
    happens same then_comes then_happens then_same =
    (places_change_counted state sound port other apart event another failed fails one two
    (counted_local port state (sound_card state sound port) failed event one comes happens same)
    then_comes then_happens then_same).change
