use Rattle.std.proofs.Common.{[], ◌∷◌, refl, sym, ap, ◌∙◌, subst}
use Rattle.card_book.specs.Book.{GoesByHistory}
use Rattle.card_book.specs.declared.entry.HistoryEntry.TheVariants.{PhaseEnd}
use Rattle.card_book.proofs.StepLemmas.{goes_by_more}
use Rattle.card_book.proofs.book.Book.end_phase.Goals as goal

pub invariant_of-self : goal.invariant_of-self
invariant_of-self g c =
    let store = g.St.CardStore in
    let now = store.state c.self.inside.store in
    let more = PhaseEnd c.args.next.now ∷ [] in
    let begun = g.N.SectionName.begun in (
      c.self.invariant.0,
      subst (GoesByHistory store.holds store.is_used_up begun now)
          (sym (ap (λ pen. pen.history) c.mark_each.ensures.pen ∙ c.add_phase_end.ensures))
          (goes_by_more store.holds store.is_used_up begun now c.self.inside.pen.history more
          (record { records = refl; rises = refl; worn = refl }) c.self.invariant.1),
    )
