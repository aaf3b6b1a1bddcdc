-- What a history says with further entries.
use Rattle.std.proofs.Common.{◌≡◌, inl, inr, ℕ, ◌≤◌, List, [], ◌∷◌, ◌++◌, length, refl}
use Rattle.std.proofs.Common.{◌∙◌, ap, arith, Option, None, Some, append_assoc}
use Rattle.std.proofs.lemmas.Grind.{flat_map-append}
use Rattle.std.proofs.lemmas.List.{append-nil}
use Rattle.card_book.specs.Faults.{AreApart, Rise, rise_in, rises_of}
use Rattle.card_book.specs.History.{committed_in, records_of, shared_of}
use Rattle.card_book.specs.Images.{HoldsPart, WasHeld}
use Rattle.card_book.specs.Unrepaired.{FailedAt, IsUnrepaired}
use Rattle.card_book.specs.declared.entry.HistoryEntry.{HistoryEntry}
use Rattle.card_book.specs.declared.entry.HistoryEntry.TheVariants.{Commit, FailedCommit}
use Rattle.card_book.specs.declared.entry.HistoryEntry.TheVariants.{Statement, PhaseEnd}
use Rattle.card_book.specs.declared.fault.BookFault.TheVariants.{Store}
use Rattle.card_journal.specs.declared.commit_fault.CommitFault.TheVariants.{Flash}
use Rattle.port_io.specs.Faults.{Rose}
use Rattle.record_codec.specs.Apply.{apply, fold}
use Rattle.record_codec.specs.declared.durable.Durable.{Durable}
use Rattle.record_codec.specs.declared.record.Record.{Record}

-- one more record
pub fold_more : (held : Durable) (entries : List Record) (entry : Record)
    → fold held (entries ++ entry ∷ []) ≡ apply (fold held entries) entry
fold_more held [] entry = refl
fold_more held (first ∷ entries) entry = fold_more (apply held first) entries entry

-- a history has at most as many records as entries
pub few_records : (history : List HistoryEntry) → length (records_of history) ≤ length history
few_records [] = omega arith
few_records (Commit port entry ∷ history) = omega (arith, few_records history)
few_records (FailedCommit port entry fault ∷ history) = omega (arith, few_records history)
few_records (Statement shared ∷ history) = omega (arith, few_records history)
few_records (PhaseEnd next ∷ history) = omega (arith, few_records history)

pub few_shared : (history : List HistoryEntry) → length (shared_of history) ≤ length history
few_shared [] = omega arith
few_shared (Commit port entry ∷ history) = omega (arith, few_shared history)
few_shared (FailedCommit port entry fault ∷ history) = omega (arith, few_shared history)
few_shared (Statement shared ∷ history) = omega (arith, few_shared history)
few_shared (PhaseEnd next ∷ history) = omega (arith, few_shared history)

-- further entries without a record
pub records_stay : (history more : List HistoryEntry) → records_of more ≡ []
    → records_of (history ++ more) ≡ records_of history
records_stay history more none =
    flat_map-append committed_in history more ∙ ap (λ records. records_of history ++ records) none
    ∙ append-nil (records_of history)

pub rises_stay : (history more : List HistoryEntry) → rises_of more ≡ []
    → rises_of (history ++ more) ≡ rises_of history
rises_stay history more none =
    flat_map-append rise_in history more ∙ ap (λ rises. rises_of history ++ rises) none
    ∙ append-nil (rises_of history)

-- a commit that the flash failed, where further entries follow
pub failed_more : (history before : List HistoryEntry) (entry : Record)
    (later more : List HistoryEntry) → FailedAt history before entry later
    → FailedAt (history ++ more) before entry (later ++ more)
failed_more history before entry later more failed = record {
  port = failed.port;
  from = failed.from;
  upto = failed.upto;
  is = ap (λ entries. entries ++ more) failed.is ∙ append_assoc before
      (FailedCommit failed.port entry (Store (Flash failed.from failed.upto)) ∷ later) more;
}

pub unrepaired_more : (history more : List HistoryEntry) (unrepaired : Option Record)
    → records_of more ≡ [] → IsUnrepaired history unrepaired
    → IsUnrepaired (history ++ more) unrepaired
unrepaired_more history more None none is = tt
unrepaired_more history more (Some entry) none (before, later, failed, last) = (
  before,
  later ++ more,
  failed_more history before entry later more failed,
  records_stay later more none ∙ last,
)

-- the counts are apart up to a later count too
pub apart_later : (from : ℕ) (rises : List Rise) (upto later : ℕ) → upto ≤ later
    → AreApart from rises upto → AreApart from rises later
apart_later from [] upto later le apart = omega (arith, le, apart)
apart_later from (rise ∷ rises) upto later le (starts, rose, rest) =
    (starts, rose, apart_later rise.upto rises upto later le rest)

-- one more failure
pub apart_more : (from : ℕ) (rises : List Rise) (upto : ℕ) (rise : Rise) → upto ≤ rise.from
    → Rose rise.from rise.upto → AreApart from rises upto
    → AreApart from (rises ++ rise ∷ []) rise.upto
apart_more from [] upto rise le rose apart = (omega (arith, le, apart), rose, omega arith)
apart_more from (first ∷ rises) upto rise le rose (starts, first_rose, rest) =
    (starts, first_rose, apart_more first.upto rises upto rise le rose rest)

-- what was held at some place of the history
pub held_more : (begun : Durable) (history more : List HistoryEntry) (held : Durable)
    → WasHeld begun history held → WasHeld begun (history ++ more) held
held_more begun history more held (before, later, is, held_is) = (
  before,
  later ++ more,
  ap (λ entries. entries ++ more) is ∙ append_assoc before later more,
  held_is,
)

pub holds_more : (holds : List ℕ → Durable → Type 0) (begun : Durable)
    (history more : List HistoryEntry) (image : List ℕ) → HoldsPart holds begun history image
    → HoldsPart holds begun (history ++ more) image
holds_more holds begun history more image (held, inl was, it_holds) =
    (held, inl (held_more begun history more held was), it_holds)
holds_more holds begun history more image
    (held, inr (before, entry, later, failed, held_is), it_holds) =
    let stays = failed_more history before entry later more failed in
    (held, inr (before, entry, later ++ more, stays, held_is), it_holds)
