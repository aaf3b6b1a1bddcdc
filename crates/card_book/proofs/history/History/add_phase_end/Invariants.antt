use Rattle.card_book.specs.declared.entry.HistoryEntry.TheVariants.{PhaseEnd}
use Rattle.card_book.proofs.history.History.add_phase_end.Given as goal

abbrev pub ghosts-add : goal.ghosts-add
ghosts-add a = record { entry = PhaseEnd a._parts.now }
