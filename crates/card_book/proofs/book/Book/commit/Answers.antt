use Rattle.std.proofs.Common.{Some, None, sym, subst}
use Rattle.card_book.specs.Book.{GoesByHistory}
use Rattle.card_book.proofs.StepLemmas.{goes_on_by}
use Rattle.card_book.proofs.book.Book.commit.Goals as goal

pub invariant_of-self : goal.invariant_of-self
invariant_of-self g c =
    let store = g.St.CardStore in
    let new = c.commit_if_it_fits.new.store in
    let done = c.commit_if_it_fits.ensures in (
      done.open,
      subst (GoesByHistory store.holds store.is_used_up g.N.SectionName.begun (store.state new))
          (sym c.add_commit.ensures.history)
          (goes_on_by store.holds store.is_used_up g.N.SectionName.begun
          (store.state c.self.inside.store) (store.state new) c.self.inside.pen.history
          c.port.result c.args.entry.now None (g.met.St.CardStore.lawful new)
          c.self.invariant.1 c.in-Ok.ensures.step),
    )

pub returns-in-Ok-clause-kept : goal.returns-in-Ok-clause-kept
returns-in-Ok-clause-kept g c = (invariant_of-self g c).1

pub invariant_of-self-in-Err : goal.invariant_of-self-in-Err
invariant_of-self-in-Err g c =
    let store = g.St.CardStore in
    let new = c.commit_if_it_fits.new.store in
    let done = c.commit_if_it_fits.ensures in (
      done.open,
      subst (GoesByHistory store.holds store.is_used_up g.N.SectionName.begun (store.state new))
          (sym c.add_failure.ensures)
          (goes_on_by store.holds store.is_used_up g.N.SectionName.begun
          (store.state c.self.inside.store) (store.state new) c.self.inside.pen.history
          c.port-in-Err.result c.args.entry.now (Some c.in-Err.fault)
          (g.met.St.CardStore.lawful new) c.self.invariant.1 c.in-Err.ensures.step),
    )

pub returns-in-Err-clause-kept : goal.returns-in-Err-clause-kept
returns-in-Err-clause-kept g c = (invariant_of-self-in-Err g c).1
