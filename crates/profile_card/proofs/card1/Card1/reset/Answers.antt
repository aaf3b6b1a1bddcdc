use Rattle.std.proofs.Common.{sym, subst}
use Rattle.uicc_channels.proofs.SessionLemmas.{Suits-fresh_session}
use Rattle.uicc_channels.specs.Session.{Suits}
use Rattle.uicc_channels.specs.declared.session.Session.{Session}
use Rattle.uicc_tree.specs.Files.{rows_of}
use Rattle.profile_card.proofs.card1.Card1.reset.Goals as goal

pub invariant_of-self : goal.invariant_of-self
invariant_of-self c = (
  c.self.invariant.0,
  subst (λ (session : Session). Suits session (rows_of c.self.inside.tree)) (sym c.fresh-self-inside.ensures)
      (Suits-fresh_session (record { rows = rows_of c.self.inside.tree; pins = c.self.inside.pins.items }) c.args.refresh c.args.kept c.self.invariant.0),
)
