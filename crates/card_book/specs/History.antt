-- The history of a section: what it says, and how a table keeps it.
use Rattle.std.specs.Prelude.{ℕ, ◌≡◌, ◌+◌, ◌<◌, ◌^◌, List, [], ◌∷◌, ◌++◌, length}
use Rattle.std.specs.List.{flat_map}
use Rattle.atomic_table.specs.Table.{State}
use Rattle.card_book.specs.declared.entry.HistoryEntry.{HistoryEntry}
use Rattle.card_book.specs.declared.entry.HistoryEntry.TheVariants.{Commit, FailedCommit}
use Rattle.card_book.specs.declared.entry.HistoryEntry.TheVariants.{Statement, PhaseEnd}
use Rattle.card_book.specs.declared.history.Known.{Known}
use Rattle.card_book.specs.declared.shared.Shared.{Shared}
use Rattle.record_codec.specs.declared.record.Record.{Record}

-- the record that an entry says was committed
abbrev pub committed_in : HistoryEntry → List Record
committed_in (Commit port entry) = entry ∷ []
committed_in (FailedCommit port entry fault) = []
committed_in (Statement shared) = []
committed_in (PhaseEnd next) = []

-- the records that were committed, in their order
abbrev pub records_of : List HistoryEntry → List Record
records_of history = flat_map committed_in history

-- the statement of an entry that needed the card as a whole
abbrev pub shared_statement_in : HistoryEntry → List Shared
shared_statement_in (Commit port entry) = []
shared_statement_in (FailedCommit port entry fault) = []
shared_statement_in (Statement shared) = shared ∷ []
shared_statement_in (PhaseEnd next) = []

-- the statements that needed the card as a whole, in their order
abbrev pub shared_of : List HistoryEntry → List Shared
shared_of history = flat_map shared_statement_in history

-- so many more entries can be counted in 32 bits
abbrev pub HasEntryRoom : ℕ → List HistoryEntry → Type 0
HasEntryRoom more history = length history + more < 2 ^ 32

abbrev pub known : List HistoryEntry → Known
known entries = record { entries = entries }

abbrev pub with_entry : Known → HistoryEntry → Known
with_entry before entry = known (before.entries ++ entry ∷ [])

-- the table's only word is the length of the history, which its only seat knows
pub record KeepsHistory (table : State Unit Known) : Type 0 where
  pub entries : List HistoryEntry
  pub words : table.words ≡ length entries ∷ []
  pub views : table.views ≡ known entries ∷ []
