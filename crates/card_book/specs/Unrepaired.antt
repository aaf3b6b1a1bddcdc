-- Commits that the flash failed, in a history.
use Rattle.std.specs.Prelude.{ℕ, ◌≡◌, List, [], ◌∷◌, ◌++◌, Option, None, Some, ⊤}
use Rattle.card_book.specs.History.{records_of}
use Rattle.card_book.specs.declared.entry.HistoryEntry.{HistoryEntry}
use Rattle.card_book.specs.declared.entry.HistoryEntry.TheVariants.{FailedCommit}
use Rattle.card_book.specs.declared.fault.BookFault.TheVariants.{Store}
use Rattle.card_journal.specs.declared.commit_fault.CommitFault.TheVariants.{Flash}
use Rattle.record_codec.specs.declared.record.Record.{Record}

-- behind these entries the flash failed a commit of the record, and the others follow
pub record FailedAt (history before : List HistoryEntry) (entry : Record)
    (later : List HistoryEntry) : Type 0 where
  pub port : ℕ
  pub from : ℕ
  pub upto : ℕ
  pub is : history ≡ before ++ FailedCommit port entry (Store (Flash from upto)) ∷ later

-- no record is unrepaired, or one that the flash failed behind the last commit
abbrev pub IsUnrepaired : List HistoryEntry → Option Record → Type 0
IsUnrepaired history None = ⊤
IsUnrepaired history (Some entry) =
    (before later : List HistoryEntry) × FailedAt history before entry later
    × (records_of later ≡ [])
