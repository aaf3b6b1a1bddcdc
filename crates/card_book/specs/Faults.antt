-- The counts of faults that a history keeps.
use Rattle.std.specs.Prelude.{ℕ, ◌≤◌, Bool, true, false, List, [], ◌∷◌}
use Rattle.std.specs.List.{flat_map}
use Rattle.card_book.specs.declared.entry.HistoryEntry.{HistoryEntry}
use Rattle.card_book.specs.declared.entry.HistoryEntry.TheVariants.{Commit, FailedCommit}
use Rattle.card_book.specs.declared.entry.HistoryEntry.TheVariants.{Statement, PhaseEnd}
use Rattle.card_book.specs.declared.fault.BookFault.{BookFault}
use Rattle.card_book.specs.declared.fault.BookFault.TheVariants.{Store, Unfit}
use Rattle.card_journal.specs.declared.commit_fault.CommitFault.TheVariants.{Flash, Worn, NoMemory}
use Rattle.port_io.specs.Faults.{Rose}

-- the counts of faults before a failure and after it
pub record Rise : Type 0 where
  pub from : ℕ
  pub upto : ℕ

abbrev pub rise_in_fault : BookFault → List Rise
rise_in_fault (Store (Flash before after)) = record { from = before; upto = after } ∷ []
rise_in_fault (Store Worn) = []
rise_in_fault (Store NoMemory) = []
rise_in_fault Unfit = []

abbrev pub rise_in : HistoryEntry → List Rise
rise_in (Commit port entry) = []
rise_in (FailedCommit port entry fault) = rise_in_fault fault
rise_in (Statement shared) = []
rise_in (PhaseEnd next) = []

-- the counts of the failures of the flash, in their order
abbrev pub rises_of : List HistoryEntry → List Rise
rises_of history = flat_map rise_in history

-- in each failure the count rose, none begins below where the one before ended, and all lie between
-- these counts
abbrev pub AreApart : ℕ → List Rise → ℕ → Type 0
AreApart from [] upto = from ≤ upto
AreApart from (rise ∷ rises) upto =
    (from ≤ rise.from) × Rose rise.from rise.upto × AreApart rise.upto rises upto

-- whether the entry is that of a commit that was refused since a switch row is used up
abbrev pub is_worn_fault : BookFault → Bool
is_worn_fault (Store (Flash before after)) = false
is_worn_fault (Store Worn) = true
is_worn_fault (Store NoMemory) = false
is_worn_fault Unfit = false

abbrev pub is_refused_worn : HistoryEntry → Bool
is_refused_worn (Commit port entry) = false
is_refused_worn (FailedCommit port entry fault) = is_worn_fault fault
is_refused_worn (Statement shared) = false
is_refused_worn (PhaseEnd next) = false
