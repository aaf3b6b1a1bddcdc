use Rattle.card_journal.specs.Store.{store_of}
use Rattle.card_journal.specs.StoreState.{IsUsable}
use Rattle.card_journal.proofs.tests.filling.commit_times.Given as goal

abbrev pub invariant-times : goal.invariant-times
invariant-times g l = IsUsable (store_of g.F.Flash.state l.store)
