-- What a book keeps: how the store has gone on since the section began, as its history says.
use Rattle.std.specs.Prelude.{ℕ, ◌≡◌, List, IfSome, IsTrue}
use Rattle.std.specs.List.{list_any}
use Rattle.card_book.specs.Faults.{AreApart, is_refused_worn, rises_of}
use Rattle.card_book.specs.History.{records_of}
use Rattle.card_book.specs.Images.{HoldsPart}
use Rattle.card_book.specs.Unrepaired.{IsUnrepaired}
use Rattle.card_book.specs.declared.entry.HistoryEntry.{HistoryEntry}
use Rattle.card_journal.specs.CardStoreState.{CardStoreState, KeepsHeld}
use Rattle.flash_pages.specs.Flash.{GoesOn, LeavesOnly}
use Rattle.record_codec.specs.Apply.{fold}
use Rattle.record_codec.specs.declared.durable.Durable.{Durable}

-- what contracts see of a book
pub record BookState (St : Type 0) : Type 0 where
  pub store : St
  pub history : List HistoryEntry

-- The store has gone on from the one state to the other as the history says.
pub record GoesByHistory (holds : List ℕ → Durable → Type 0) (is_used_up : ℕ → List ℕ → Type 0)
    (begun now : CardStoreState) (history : List HistoryEntry) : Type 0 where
  -- what is held is what the committed records make of the card
  pub held : now.held ≡ fold begun.held (records_of history)
  pub unrepaired : IsUnrepaired history now.unrepaired
  pub faults : AreApart begun.flash.faults (rises_of history) now.flash.faults
  pub time : GoesOn begun.flash now.flash
  -- a switch row that was used up is so now, and there is one where a commit was refused for that
  pub used_up : (row : ℕ) → IfSome begun.flash.bytes (is_used_up row)
      → IfSome now.flash.bytes (is_used_up row)
  pub worn : IsTrue (list_any is_refused_worn history)
      → (row : ℕ) × IfSome now.flash.bytes (is_used_up row)
  -- where the flash kept what was held as the section began, it keeps what is held now, and each
  -- image since then holds a part of the history
  pub keeps : KeepsHeld holds begun → KeepsHeld holds now
  pub images : KeepsHeld holds begun
      → LeavesOnly begun.flash now.flash (HoldsPart holds begun.held history)
