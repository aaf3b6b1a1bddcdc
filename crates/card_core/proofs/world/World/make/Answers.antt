use Rattle.std.proofs.Common.{ℕ, List, subst, sym}
use Rattle.card_core.proofs.CameLemmas.{on_ok}
use Rattle.card_core.specs.Statements.{AnswersBytes, Makes}
use Rattle.card_core.specs.Whole.{world_state}
use Rattle.card_core.specs.declared.event.Event.{Event}
use Rattle.card_core.proofs.world.World.make.Goals as goal

pub returns-in-Apdu : goal.returns-in-Apdu
returns-in-Apdu c =
    let state = world_state c.args.self.now in
    on_ok c.answer_bytes.result c.answer_bytes.ensures (λ all. (
      all.0,
      subst (λ (its : Event). Makes state its all.0) (sym c.in-Apdu.is)
          (subst (λ (bytes : List ℕ). AnswersBytes state c.in-Apdu.port bytes all.0)
          c.as_slice.ensures all.1),
      all.2,
    ))
