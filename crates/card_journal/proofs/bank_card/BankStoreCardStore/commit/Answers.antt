use Rattle.card_journal.proofs.StoreLemmas.{on_ok}
use Rattle.card_journal.proofs.SwitchedLemmas.{used_up_stays}
use Rattle.card_journal.specs.Store.{store_of}
use Rattle.card_journal.specs.StoreState.{NeedsSwitch}
use Rattle.card_journal.proofs.bank_card.BankStoreCardStore.commit.Goals as goal

pub returns-clause-next : goal.returns-clause-next
returns-clause-next g c = on_ok c.commit.result _ _ c.commit.ensures.next (λ next row needed. next needed)

pub returns-clause-used_up : goal.returns-clause-used_up
returns-clause-used_up g c = λ row used_up.
    let store = c.args.self.now in
    used_up_stays (g.F.Flash.state store.flash) (g.F.Flash.state c.commit.new.self.flash)
    (NeedsSwitch (store_of g.F.Flash.state store) c.args.entry.now) row c.commit.ensures.time c.commit.ensures.switch_row used_up
