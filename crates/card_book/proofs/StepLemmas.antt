-- What a commit by a book keeps.
use Rattle.std.proofs.Common.{◌≡◌, ◌⊎◌, inl, inr, ⊎_elim, ℕ, ◌≤◌, List, [], ◌∷◌, ◌++◌, refl, sym}
use Rattle.std.proofs.Common.{◌∙◌, ap, subst, arith, Option, None, Some, IsTrue, Bool, true}
use Rattle.std.proofs.Common.{false, ◌||◌}
use Rattle.std.specs.List.{list_any}
use Rattle.std.proofs.lemmas.Bool.{false≢true}
use Rattle.std.proofs.lemmas.Grind.{flat_map-append}
use Rattle.std.proofs.lemmas.List.{append-nil}
use Rattle.std.proofs.lemmas.List.Folds.{list_any-append}
use Rattle.card_book.specs.Book.{GoesByHistory}
use Rattle.card_book.specs.Faults.{AreApart, Rise, is_refused_worn, rise_in, rises_of}
use Rattle.card_book.specs.History.{committed_in, records_of}
use Rattle.card_book.specs.Images.{HoldsPart}
use Rattle.card_book.specs.Step.{CauseIs, HeldAfter, HoldsInStep, StoreStep, UnrepairedAfter}
use Rattle.card_book.specs.Step.{WasTried, entries_made}
use Rattle.card_book.specs.Unrepaired.{IsUnrepaired}
use Rattle.card_book.specs.declared.entry.HistoryEntry.{HistoryEntry}
use Rattle.card_book.specs.declared.entry.HistoryEntry.TheVariants.{Commit, FailedCommit}
use Rattle.card_book.specs.declared.fault.BookFault.{BookFault}
use Rattle.card_book.specs.declared.fault.BookFault.TheVariants.{Store, Unfit}
use Rattle.card_journal.specs.CardStoreState.{CardStoreState, HoldsOneOf}
use Rattle.card_journal.specs.declared.commit_fault.CommitFault.TheVariants.{Flash, Worn, NoMemory}
use Rattle.flash_pages.specs.Flash.{IsFlash, card_blocks}
use Rattle.flash_pages.proofs.Touched.{GoesOn-trans, LeavesOnly-trans}
use Rattle.port_io.specs.Faults.{Rose}
use Rattle.record_codec.specs.Apply.{apply, fold}
use Rattle.record_codec.specs.declared.durable.Durable.{Durable}
use Rattle.record_codec.specs.declared.record.Record.{Record}
use Rattle.card_book.proofs.HistoryLemmas.{apart_later, apart_more, failed_more, fold_more}
use Rattle.card_book.proofs.HistoryLemmas.{holds_more, records_stay, rises_stay, unrepaired_more}

-- a commit that was made adds its record
records_made : (history : List HistoryEntry) (port : ℕ) (entry : Record)
    → records_of (history ++ Commit port entry ∷ []) ≡ records_of history ++ entry ∷ []
records_made history port entry = flat_map-append committed_in history (Commit port entry ∷ [])

fold_made : (begun : Durable) (history : List HistoryEntry) (port : ℕ) (entry : Record)
    → apply (fold begun (records_of history)) entry
    ≡ fold begun (records_of (history ++ Commit port entry ∷ []))
fold_made begun history port entry =
    sym (fold_more begun (records_of history) entry)
    ∙ ap (fold begun) (sym (records_made history port entry))

-- one that was refused adds none
refused_none : (port : ℕ) (entry : Record) (fault : BookFault)
    → records_of (entries_made port entry (Some fault)) ≡ []
refused_none port entry (Store (Flash before after)) = refl
refused_none port entry (Store Worn) = refl
refused_none port entry (Store NoMemory) = refl
refused_none port entry Unfit = refl

held_after : (begun old new : Durable) (history : List HistoryEntry) (port : ℕ) (entry : Record)
    (fault : Option BookFault) → old ≡ fold begun (records_of history)
    → HeldAfter entry old new fault
    → new ≡ fold begun (records_of (history ++ entries_made port entry fault))
held_after begun old new history port entry None is done =
    done ∙ ap (λ held. apply held entry) is ∙ fold_made begun history port entry
held_after begun old new history port entry (Some fault) is same =
    same ∙ is ∙ ap (fold begun) (sym (records_stay history (entries_made port entry (Some fault))
    (refused_none port entry fault)))

unrepaired_same : (old new : Option Record) (history : List HistoryEntry) (port : ℕ)
    (entry : Record) (fault : BookFault) → IsUnrepaired history old → new ≡ old
    → IsUnrepaired (history ++ entries_made port entry (Some fault)) new
unrepaired_same old new history port entry fault is same =
    let more = entries_made port entry (Some fault) in
    subst (IsUnrepaired (history ++ more)) (sym same)
    (unrepaired_more history more old (refused_none port entry fault) is)

unrepaired_after : (old new : Option Record) (history : List HistoryEntry) (port : ℕ)
    (entry : Record) (fault : Option BookFault) → IsUnrepaired history old
    → UnrepairedAfter entry old new fault
    → IsUnrepaired (history ++ entries_made port entry fault) new
unrepaired_after old new history port entry None is none =
    subst (IsUnrepaired (history ++ Commit port entry ∷ [])) (sym none) tt
unrepaired_after old new history port entry (Some (Store (Flash before after))) is (inl same) =
    unrepaired_same old new history port entry (Store (Flash before after)) is same
unrepaired_after old new history port entry (Some (Store (Flash before after))) is (inr its) =
    let more = FailedCommit port entry (Store (Flash before after)) ∷ [] in
    subst (IsUnrepaired (history ++ more)) (sym its) (
      history,
      [],
      record { port = port; from = before; upto = after; is = refl },
      refl,
    )
unrepaired_after old new history port entry (Some (Store Worn)) is same =
    unrepaired_same old new history port entry (Store Worn) is same
unrepaired_after old new history port entry (Some (Store NoMemory)) is same =
    unrepaired_same old new history port entry (Store NoMemory) is same
unrepaired_after old new history port entry (Some Unfit) is same =
    unrepaired_same old new history port entry Unfit is same

-- entries without a failure of the flash
apart_same : (begun old new : ℕ) (history more : List HistoryEntry) → rises_of more ≡ []
    → old ≤ new → AreApart begun (rises_of history) old
    → AreApart begun (rises_of (history ++ more)) new
apart_same begun old new history more none le apart =
    subst (λ rises. AreApart begun rises new) (sym (rises_stay history more none))
    (apart_later begun (rises_of history) old new le apart)

faults_after : (begun old new : ℕ) (history : List HistoryEntry) (port : ℕ) (entry : Record)
    (fault : Option BookFault) → old ≤ new → AreApart begun (rises_of history) old
    → CauseIs old new fault
    → AreApart begun (rises_of (history ++ entries_made port entry fault)) new
faults_after begun old new history port entry None le apart cause =
    apart_same begun old new history (Commit port entry ∷ []) refl le apart
faults_after begun old new history port entry (Some (Store (Flash before after))) le apart
    (rose, from, upto) =
    let rise : Rise = record { from = before; upto = after } in
    let more = FailedCommit port entry (Store (Flash before after)) ∷ [] in
    subst (λ rises. AreApart begun rises new) (sym (flat_map-append rise_in history more))
    (subst (AreApart begun (rises_of history ++ rise ∷ [])) upto
    (apart_more begun (rises_of history) old rise (omega (arith, from))
    (subst (λ (counts : ℕ × ℕ). Rose counts.0 counts.1)
    (λ i. (sym from i, sym upto i)) rose) apart))
faults_after begun old new history port entry (Some (Store Worn)) le apart cause =
    apart_same begun old new history (FailedCommit port entry (Store Worn) ∷ []) refl le apart
faults_after begun old new history port entry (Some (Store NoMemory)) le apart cause =
    apart_same begun old new history [] refl le apart
faults_after begun old new history port entry (Some Unfit) le apart cause =
    apart_same begun old new history (FailedCommit port entry Unfit ∷ []) refl le apart

either_true : (one other : Bool) → IsTrue (one || other) → IsTrue one ⊎ IsTrue other
either_true true other holds = inl refl
either_true false other holds = inr holds

-- a commit that was refused since a switch row is used up, among further entries
worn_in : (history more : List HistoryEntry) → IsTrue (list_any is_refused_worn (history ++ more))
    → IsTrue (list_any is_refused_worn history) ⊎ IsTrue (list_any is_refused_worn more)
worn_in history more is = either_true _ _ (sym (list_any-append is_refused_worn history more) ∙ is)

worn_made : (port : ℕ) (entry : Record) (fault : Option BookFault)
    → IsTrue (list_any is_refused_worn (entries_made port entry fault))
    → fault ≡ Some (Store Worn)
worn_made port entry None is = absurd (false≢true is)
worn_made port entry (Some (Store (Flash before after))) is = absurd (false≢true is)
worn_made port entry (Some (Store Worn)) is = refl
worn_made port entry (Some (Store NoMemory)) is = absurd (false≢true is)
worn_made port entry (Some Unfit) is = absurd (false≢true is)

-- the images of a commit hold what was held behind some entries, and where a commit failed there
module _ (holds : List ℕ → Durable → Type 0) (begun : Durable) (old : CardStoreState)
    (history : List HistoryEntry) (port : ℕ) (entry : Record)
    (held : old.held ≡ fold begun (records_of history))
    (unrepaired : IsUnrepaired history old.unrepaired) where
  image_of_old : (more : List HistoryEntry) (failed : Option Record) → IsUnrepaired history failed
      → (image : List ℕ) → HoldsOneOf holds old.held failed image
      → HoldsPart holds begun (history ++ more) image
  image_of_old more None is image its =
      (old.held, inl (history, more, refl, held), its)
  image_of_old more (Some failed) is image (inl its) =
      (old.held, inl (history, more, refl, held), its)
  image_of_old more (Some failed) (before, later, at, last) image (inr its) =
      let same : records_of history ≡ records_of before =
      ap records_of at.is ∙ flat_map-append committed_in before
      (FailedCommit at.port failed (Store (Flash at.from at.upto)) ∷ later)
      ∙ ap (λ records. records_of before ++ records) last
      ∙ append-nil (records_of before) in (
        apply old.held failed,
        inr (
          before,
          failed,
          later ++ more,
          failed_more history before failed later more at,
          ap (λ card. apply card failed) (held ∙ ap (fold begun) same),
        ),
        its,
      )

  image_of_new : (fault : Option BookFault) (image : List ℕ) → WasTried fault
      → holds image (apply old.held entry)
      → HoldsPart holds begun (history ++ entries_made port entry fault) image
  image_of_new None image tried its = (
    apply old.held entry,
    inl (
      history ++ Commit port entry ∷ [],
      [],
      sym (append-nil _),
      ap (λ card. apply card entry) held ∙ fold_made begun history port entry,
    ),
    its,
  )
  image_of_new (Some (Store (Flash before after))) image tried its = (
    apply old.held entry,
    inr (
      history,
      entry,
      [],
      record { port = port; from = before; upto = after; is = refl },
      ap (λ card. apply card entry) held,
    ),
    its,
  )
  image_of_new (Some (Store Worn)) image tried its = absurd tried
  image_of_new (Some (Store NoMemory)) image tried its = absurd tried
  image_of_new (Some Unfit) image tried its = absurd tried

  pub image_in_step : (fault : Option BookFault) (image : List ℕ)
      → HoldsInStep holds old entry fault image
      → HoldsPart holds begun (history ++ entries_made port entry fault) image
  image_in_step fault image (inl its) =
      image_of_old (entries_made port entry fault) old.unrepaired unrepaired image its
  image_in_step fault image (inr (tried, its)) = image_of_new fault image tried its

-- the store goes on by the history, and by a commit with the entry of that
pub goes_on_by : (holds : List ℕ → Durable → Type 0) (is_used_up : ℕ → List ℕ → Type 0)
    (begun old new : CardStoreState) (history : List HistoryEntry) (port : ℕ) (entry : Record)
    (fault : Option BookFault) → IsFlash card_blocks new.flash
    → GoesByHistory holds is_used_up begun old history → StoreStep holds is_used_up old new entry fault
    → GoesByHistory holds is_used_up begun new (history ++ entries_made port entry fault)
goes_on_by holds is_used_up begun old new history port entry fault lawful goes step =
    let more = entries_made port entry fault in record {
      held = held_after begun.held old.held new.held history port entry fault goes.held step.held;
      unrepaired = unrepaired_after old.unrepaired new.unrepaired history port entry fault
          goes.unrepaired step.unrepaired;
      faults = faults_after begun.flash.faults old.flash.faults new.flash.faults history port entry
          fault step.time.faults goes.faults step.cause;
      time = GoesOn-trans card_blocks begun.flash old.flash new.flash lawful goes.time step.time;
      used_up = λ row was. step.used_up row (goes.used_up row was);
      worn = λ is. ⊎_elim
          (λ before. let was = goes.worn before in (was.0, step.used_up was.0 was.1))
          (λ now. step.worn (worn_made port entry fault now))
          (worn_in history more is);
      keeps = λ kept. step.keeps (goes.keeps kept);
      images = λ kept. LeavesOnly-trans begun.flash old.flash new.flash
          (HoldsPart holds begun.held (history ++ more)) goes.time step.time
          (λ says image left.
          holds_more holds begun.held history more image (goes.images kept says image left))
          (λ says image left. image_in_step holds begun.held old history port entry goes.held
          goes.unrepaired fault image (step.images (goes.keeps kept) says image left));
    }

-- no record, no failure of the flash, and no commit that was refused since a switch row is used up
pub record SaysNothing (more : List HistoryEntry) : Type 0 where
  pub records : records_of more ≡ []
  pub rises : rises_of more ≡ []
  pub worn : list_any is_refused_worn more ≡ false

-- further entries of which the store knows nothing
pub goes_by_more : (holds : List ℕ → Durable → Type 0) (is_used_up : ℕ → List ℕ → Type 0)
    (begun now : CardStoreState) (history more : List HistoryEntry) → SaysNothing more
    → GoesByHistory holds is_used_up begun now history
    → GoesByHistory holds is_used_up begun now (history ++ more)
goes_by_more holds is_used_up begun now history more nothing goes = record {
  held = goes.held ∙ ap (fold begun.held) (sym (records_stay history more nothing.records));
  unrepaired = unrepaired_more history more now.unrepaired nothing.records goes.unrepaired;
  faults = apart_same begun.flash.faults now.flash.faults now.flash.faults history more
      nothing.rises (omega arith) goes.faults;
  time = goes.time;
  used_up = goes.used_up;
  worn = λ is. ⊎_elim goes.worn (λ late. absurd (false≢true (sym nothing.worn ∙ late)))
      (worn_in history more is);
  keeps = goes.keeps;
  images = λ kept says image left.
      holds_more holds begun.held history more image (goes.images kept says image left);
}
