use Rattle.card_core.proofs.AloneRunLemmas.{answered_alone, steps_durable}
use Rattle.card_core.proofs.alone_laws.profiles_are_answered_as_alone.Goals as goal

pub returns : goal.returns
returns c start events steps after sound loads on small are =
    answered_alone start events steps after sound on are
    (steps_durable events start steps after sound loads on small are)
