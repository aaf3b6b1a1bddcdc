use Rattle.card_book.specs.declared.entry.HistoryEntry.TheVariants.{Commit}
use Rattle.card_book.proofs.history.History.add_commit.Given as goal

abbrev pub ghosts-add : goal.ghosts-add
ghosts-add a = record { entry = Commit a._parts.now.0 a._parts.now.1.now }
