use Rattle.card_journal.specs.Store.{store_of}
use Rattle.card_journal.specs.StoreState.{card_store_of}
use Rattle.flash_pages.specs.Memory.{state_of}
use Rattle.card_book.proofs.tests.answers_over.Given as goal

abbrev pub ghosts-section : goal.ghosts-section
ghosts-section a = record { begun = card_store_of (store_of state_of a.store) }
