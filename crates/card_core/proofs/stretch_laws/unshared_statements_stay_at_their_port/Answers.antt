use Rattle.card_core.proofs.CountedLemmas.{counted_local}
use Rattle.card_core.proofs.LocalLemmas.{stays_local}
use Rattle.card_core.proofs.SoundLemmas.{sound_card}
use Rattle.card_core.proofs.StretchLemmas.{local_stays}
use Rattle.card_core.proofs.stretch_laws.unshared_statements_stay_at_their_port.Goals as goal

pub returns-clause-unshared : goal.returns-clause-unshared
returns-clause-unshared c state port event failed made sound stays happens =
    local_stays port state sound event failed made
    (stays_local port state (sound_card state sound port) failed event made stays happens)

pub returns-clause-counted : goal.returns-clause-counted
returns-clause-counted c state port event failed made sound comes happens same =
    local_stays port state sound event failed made
    (counted_local port state (sound_card state sound port) failed event made comes happens same)
