use Rattle.card_book.specs.declared.entry.HistoryEntry.TheVariants.{FailedCommit}
use Rattle.card_book.proofs.history.History.add_failure.Given as goal

abbrev pub ghosts-add : goal.ghosts-add
ghosts-add a =
    let parts = a._parts.now in
    record { entry = FailedCommit parts.0 parts.1.now parts.2 }
