use Rattle.std.proofs.Common.{false, None}
use Rattle.card_core.proofs.CardLemmas.{suits_fresh}
use Rattle.card_core.proofs.tests.alone.card_alone.Goals as goal

pub start-requires-clause-suits : goal.start-requires-clause-suits
start-requires-clause-suits c =
    suits_fresh c.fresh-session.result c.in-Some.content.now false None c.fresh-session.ensures
    c.in-Some.ensures.valid
