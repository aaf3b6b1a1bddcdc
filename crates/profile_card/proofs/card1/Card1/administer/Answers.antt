use Rattle.std.proofs.Common.{refl}
use Rattle.uicc_select.proofs.SuitsLemmas.{AreRows-valid}
use Rattle.profile_card.specs.Card.{allowed_at}
use Rattle.profile_card.specs.CardState.{CardState, card_of}
use Rattle.profile_card.proofs.card1.Card1.administer.Goals as goal

pub admin_command-requires-clause-files : goal.admin_command-requires-clause-files
admin_command-requires-clause-files c = AreRows-valid _ c.self.invariant.0

pub returns : goal.returns
returns c =
    let inside = c.self.inside in
    let state : CardState = record { tree = inside.tree; pins = inside.pins.items; session = inside.session; place = inside.place } in
    rw (← c.self.view_is) (c.admin_command.ensures (allowed_at (card_of state)) (λ node mode live. rw (← c.self.view_is) refl))
