-- A commit through a keeper, as what is known of the history says.
use Rattle.std.specs.Prelude.{ℕ, ◌≡◌, List, ◌++◌, length, Result, IfOk, IsErrOf, ⊤}
use Rattle.std.specs.Result.{result_err}
use Rattle.card_book.specs.History.{records_of}
use Rattle.card_book.specs.Step.{entries_made}
use Rattle.card_book.specs.declared.entry.HistoryEntry.{HistoryEntry}
use Rattle.card_book.specs.declared.fault.BookFault.{BookFault}
use Rattle.card_book.specs.declared.fault.BookFault.TheVariants.{Store, Unfit}
use Rattle.card_book.specs.declared.receipt.Receipt.{Receipt}
use Rattle.card_journal.specs.StoreState.{MayCommit}
use Rattle.card_journal.specs.declared.commit_fault.CommitFault.TheVariants.{Flash, Worn, NoMemory}
use Rattle.port_io.specs.Faults.{Rose}
use Rattle.record_codec.specs.Apply.{fold}
use Rattle.record_codec.specs.declared.durable.Durable.{Durable}
use Rattle.record_codec.specs.declared.record.Record.{Record}

-- A commit for a port. Some entries may have come to what was known of the history, and then its
-- own comes. It is refused as Unfit exactly where the record doesn't fit what the card held then.
pub record CommitsFor (begun : Durable) (may_come : List HistoryEntry → Type 0)
    (before after : List HistoryEntry) (port : ℕ) (entry : Record)
    (result : Result Receipt BookFault) : Type 0 where
  pub between : List HistoryEntry
  pub came : may_come between
  pub known : after ≡ (before ++ between) ++ entries_made port entry (result_err result)
  -- the receipt has the place of the record among those that were committed, counted from 1
  pub number : IfOk result (λ receipt. receipt.number ≡ length (records_of after))
  pub fits : ¬ IsErrOf result Unfit
      → MayCommit (fold begun (records_of (before ++ between))) entry
  pub unfit : IsErrOf result Unfit
      → ¬ MayCommit (fold begun (records_of (before ++ between))) entry

-- a failure of the flash comes only where its count of faults rose
abbrev pub HasCause : BookFault → Type 0
HasCause (Store (Flash before after)) = Rose before after
HasCause (Store Worn) = ⊤
HasCause (Store NoMemory) = ⊤
HasCause Unfit = ⊤
