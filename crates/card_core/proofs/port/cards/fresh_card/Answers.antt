use Rattle.std.proofs.Common.{subst}
use Rattle.std.specs.Prelude.{IfSome}
use Rattle.file_rows.specs.Content.{IsValid}
use Rattle.card_core.proofs.CardLemmas.{suits_fresh}
use Rattle.card_core.proofs.port.cards.fresh_card.Goals as goal

pub start-requires-clause-suits : goal.start-requires-clause-suits
start-requires-clause-suits c =
    suits_fresh c.fresh-session.result c.in-Some.content.now c.args.refresh c.args.kept
    c.fresh-session.ensures
    (subst (λ its. IfSome its (λ content. IsValid content.now)) c.in-Some.is c.requires.valid)
