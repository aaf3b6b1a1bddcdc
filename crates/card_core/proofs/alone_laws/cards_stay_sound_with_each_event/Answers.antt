use Rattle.card_core.proofs.SoundLoadLemmas.{happens_whole}
use Rattle.card_core.proofs.alone_laws.cards_stay_sound_with_each_event.Goals as goal

pub returns : goal.returns
returns c state event failed made sound loads on small happens =
    happens_whole state sound loads failed event made on small happens
