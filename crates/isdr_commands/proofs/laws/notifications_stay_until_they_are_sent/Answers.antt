use Rattle.isdr_commands.proofs.NoteLemmas.{managed_leaves}
use Rattle.record_codec.proofs.StayLemmas.{notes_stay}
use Rattle.isdr_commands.proofs.laws.notifications_stay_until_they_are_sent.Goals as goal

pub returns : goal.returns
returns c = λ durable busy came request entry note other e there.
    notes_stay note durable entry
    (managed_leaves durable.heads busy note entry came request other e) there
