use Rattle.card_book.specs.declared.entry.HistoryEntry.TheVariants.{Statement}
use Rattle.card_book.proofs.history.History.add_shared.Given as goal

abbrev pub ghosts-add : goal.ghosts-add
ghosts-add a = record { entry = Statement a._parts.now }
