-- One commit by a book: the entry that the history gets, and what it does to the store.
use Rattle.std.specs.Prelude.{ℕ, ◌≡◌, ◌⊎◌, List, [], ◌∷◌, Option, None, Some, IfSome, ⊤}
use Rattle.card_book.specs.declared.entry.HistoryEntry.{HistoryEntry}
use Rattle.card_book.specs.declared.entry.HistoryEntry.TheVariants.{Commit, FailedCommit}
use Rattle.card_book.specs.declared.fault.BookFault.{BookFault}
use Rattle.card_book.specs.declared.fault.BookFault.TheVariants.{Store, Unfit}
use Rattle.card_journal.specs.CardStoreState.{CardStoreState, HoldsOneOf, KeepsHeld}
use Rattle.card_journal.specs.CommitFault.{IsCauseOf}
use Rattle.card_journal.specs.declared.commit_fault.CommitFault.TheVariants.{Flash, Worn, NoMemory}
use Rattle.flash_pages.specs.Flash.{GoesOn, LeavesOnly}
use Rattle.record_codec.specs.Apply.{apply}
use Rattle.record_codec.specs.declared.durable.Durable.{Durable}
use Rattle.record_codec.specs.declared.record.Record.{Record}

-- what the history gets from a commit for a port, which was refused for this or made: an entry, but
-- for want of memory
abbrev pub entries_made : ℕ → Record → Option BookFault → List HistoryEntry
entries_made port entry None = Commit port entry ∷ []
entries_made port entry (Some (Store (Flash before after))) =
    FailedCommit port entry (Store (Flash before after)) ∷ []
entries_made port entry (Some (Store Worn)) = FailedCommit port entry (Store Worn) ∷ []
entries_made port entry (Some (Store NoMemory)) = []
entries_made port entry (Some Unfit) = FailedCommit port entry Unfit ∷ []

-- the record is carried out, or what is held is as before
abbrev pub HeldAfter : Record → Durable → Durable → Option BookFault → Type 0
HeldAfter entry old new None = new ≡ apply old entry
HeldAfter entry old new (Some fault) = new ≡ old

-- After a commit nothing is unrepaired. After a failure of the flash the record may be.
abbrev pub UnrepairedAfter : Record → Option Record → Option Record → Option BookFault → Type 0
UnrepairedAfter entry old new None = new ≡ None
UnrepairedAfter entry old new (Some (Store (Flash before after))) =
    (new ≡ old) ⊎ (new ≡ Some entry)
UnrepairedAfter entry old new (Some (Store Worn)) = new ≡ old
UnrepairedAfter entry old new (Some (Store NoMemory)) = new ≡ old
UnrepairedAfter entry old new (Some Unfit) = new ≡ old

-- the flash was asked to keep the record
abbrev pub WasTried : Option BookFault → Type 0
WasTried None = ⊤
WasTried (Some (Store (Flash before after))) = ⊤
WasTried (Some (Store Worn)) = ⊥
WasTried (Some (Store NoMemory)) = ⊥
WasTried (Some Unfit) = ⊥

-- a failure of the flash has the counts of faults before the commit and after it, and comes only
-- where the count rose
abbrev pub CauseIs : ℕ → ℕ → Option BookFault → Type 0
CauseIs old new None = ⊤
CauseIs old new (Some (Store fault)) = IsCauseOf old new fault
CauseIs old new (Some Unfit) = ⊤

-- an image of a moment in the commit holds what was held, or that after the record that was
-- unrepaired, or, where the flash was asked to keep this one, that after it
abbrev pub HoldsInStep : (List ℕ → Durable → Type 0) → CardStoreState → Record
    → Option BookFault → List ℕ → Type 0
HoldsInStep holds old entry fault image =
    HoldsOneOf holds old.held old.unrepaired image
    ⊎ (WasTried fault × holds image (apply old.held entry))

-- What a commit of a record does to a store, which was refused for this or made.
pub record StoreStep (holds : List ℕ → Durable → Type 0) (is_used_up : ℕ → List ℕ → Type 0)
    (old new : CardStoreState) (entry : Record) (fault : Option BookFault) : Type 0 where
  pub held : HeldAfter entry old.held new.held fault
  pub unrepaired : UnrepairedAfter entry old.unrepaired new.unrepaired fault
  pub time : GoesOn old.flash new.flash
  pub cause : CauseIs old.flash.faults new.flash.faults fault
  -- a switch row that is used up stays so, and there is one where the record was refused for that
  pub used_up : (row : ℕ) → IfSome old.flash.bytes (is_used_up row)
      → IfSome new.flash.bytes (is_used_up row)
  pub worn : fault ≡ Some (Store Worn) → (row : ℕ) × IfSome new.flash.bytes (is_used_up row)
  -- where the flash keeps what is held, it still does
  pub images : KeepsHeld holds old
      → LeavesOnly old.flash new.flash (HoldsInStep holds old entry fault)
  pub keeps : KeepsHeld holds old → KeepsHeld holds new
