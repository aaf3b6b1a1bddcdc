-- The part of a book that has the history.
use Rattle.std.specs.Prelude.{ℕ, ◌≡◌, ◌<◌, ◌^◌, List, length}
use Rattle.card_book.specs.History.{records_of, shared_of}
use Rattle.card_book.specs.declared.entry.HistoryEntry.{HistoryEntry}

pub record PenState : Type 0 where
  pub history : List HistoryEntry

-- so many commits and so many statements that needed the card as a whole are in the history
pub record HasCounts (history : List HistoryEntry) (commits shared : ℕ) : Type 0 where
  pub few : length history < 2 ^ 32
  pub commits_are : commits ≡ length (records_of history)
  pub shared_are : shared ≡ length (shared_of history)
