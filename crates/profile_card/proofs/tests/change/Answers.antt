use Rattle.std.proofs.Common.{Some, subst, sym}
use Rattle.std.specs.Prelude.{false, None}
use Rattle.file_rows.specs.Change.{Fits, changed}
use Rattle.uicc_channels.proofs.SessionLemmas.{Suits-fresh_session}
use Rattle.profile_card.specs.Card.{Card, MayFollow, outcome_at}
use Rattle.profile_card.proofs.tests.change.Goals as goal

pub carry_out-requires : goal.carry_out-requires
carry_out-requires c =
    let fits : Fits c.args.content.now c.args.change = c.fits.ensures.0 c.if-not-fits.false in
    subst (λ (card : Card). MayFollow card (outcome_at card (record { answer = c.status.result; session = c.none.result; change = Some c.args.change }))) (sym c.requires.card)
    (rw c.none.ensures (record { change = fits; session = Suits-fresh_session (changed c.args.content.now c.args.change) false None fits.after }))
