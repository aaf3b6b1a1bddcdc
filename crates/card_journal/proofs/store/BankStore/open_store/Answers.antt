use Rattle.card_journal.proofs.StoreLemmas.{one_throughout}
use Rattle.card_journal.proofs.store.BankStore.open_store.Goals as goal

pub returns-in-Ok-clause-throughout : goal.returns-in-Ok-clause-throughout
returns-in-Ok-clause-throughout g c = λ held each.
    one_throughout (g.F.Flash.state c.args.flash) (g.F.Flash.state c.open_card.new.flash) held c.open_card.ensures.throughout each

pub returns-in-Err-clause-refused : goal.returns-in-Err-clause-refused
returns-in-Err-clause-refused g c = λ held each.
    one_throughout (g.F.Flash.state c.args.flash) (g.F.Flash.state c.open_card.new.flash) held c.open_card.ensures.throughout each
