use Rattle.card_core.proofs.AloneOnceLemmas.{IsFed-once}
use Rattle.card_core.proofs.AloneRunLemmas.{steps_durable, told_alone, told_given}
use Rattle.card_core.proofs.alone_laws.what_is_told_tells_what_a_profile_is_given.Goals as goal

pub returns-clause-given : goal.returns-clause-given
returns-clause-given c start events steps after sound loads on small are =
    told_given start events steps after sound on are
    (steps_durable events start steps after sound loads on small are)

pub returns-clause-alone : goal.returns-clause-alone
returns-clause-alone c start events steps after sound loads on small are =
    told_alone start events steps after sound on are
    (steps_durable events start steps after sound loads on small are)

pub returns-clause-once : goal.returns-clause-once
returns-clause-once c = IsFed-once
