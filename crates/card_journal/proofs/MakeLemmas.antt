-- A new card on a blank flash.
use Rattle.std.proofs.Common.{◌≡◌, inl, inr, ⊎_elim, ℕ, zero, suc, ◌+◌, ◌*◌, ◌%◌, ◌≤◌, List, []}
use Rattle.std.proofs.Common.{◌∷◌, length, replicate, Option, Some, None, IfSome, Result, Ok, Err}
use Rattle.std.proofs.Common.{OnOk, IfOk, IfErr, refl, sym, ◌∙◌, ap, subst, arith}
use Rattle.std.specs.Prelude.{◌==◌, count_by}
use Rattle.flash_pages.specs.Append.{AppendsRow, EndsAt, EndsBlank, IsTornRow, LeavesTornRow}
use Rattle.flash_pages.specs.Bank.{IsPlaceIn, bank_bytes, end_of}
use Rattle.flash_pages.specs.Bytes.{DiffersIn, IsErased, blank, patch}
use Rattle.flash_pages.specs.Flash.{FlashState, IsFlash, IsSettled, LeavesOnly, MayLeaveOnly}
use Rattle.flash_pages.specs.Flash.{card_blocks}
use Rattle.flash_pages.specs.Rows.{HasRows, row_of}
use Rattle.flash_pages.specs.Switch.{live_of}
use Rattle.flash_pages.proofs.BlankBehind.{EndsBlank-blank, EndsBlank-ends, EndsBlank-rows}
use Rattle.flash_pages.proofs.BlankBehind.{bank-append}
use Rattle.flash_pages.proofs.Outcome.{torn_in_bank}
use Rattle.flash_pages.proofs.Patches.{DiffersIn-patch, length-blank, part-blank, part_outside}
use Rattle.flash_pages.proofs.RowLemmas.{length-row_of}
use Rattle.flash_pages.proofs.Throughout.{MayLeaveOnly-settled}
use Rattle.flash_pages.proofs.Touched.{at_some, flash_size, from_each, known, known_before}
use Rattle.flash_pages.proofs.Touched.{same_some}
use Rattle.flash_pages.proofs.Unique.{unique}
use Rattle.record_codec.specs.Begin.{IsBegun}
use Rattle.record_codec.specs.FitsCard.{FitsCard}
use Rattle.record_codec.specs.IsDurable.{IsDurable}
use Rattle.record_codec.specs.Sizes.{Codes}
use Rattle.record_codec.specs.declared.durable.Durable.{Durable}
use Rattle.record_codec.specs.declared.record.Record.{Record}
use Rattle.record_codec.specs.declared.record.Record.TheVariants.{PutCard, PutProfile, Content}
use Rattle.record_codec.specs.declared.record.Record.TheVariants.{Bind, Unbind, Gone, Name}
use Rattle.record_codec.specs.declared.record.Record.TheVariants.{NoteGone}
use Rattle.card_journal.specs.Image.{AreCodings, HoldsCard, Leave, bank_of, live_bytes, switch_row}
use Rattle.card_journal.specs.Made.{FirstUsedIs, HoldsNoneOr, IsBlank, IsFirstUsed, LeavesUsed}
use Rattle.card_journal.specs.MakeFault.{IsReason}
use Rattle.card_journal.specs.declared.make.NotMade.{NotMade}
use Rattle.card_journal.specs.Read.{OnlyReads}
use Rattle.card_journal.specs.Stored.{EndsClean}
use Rattle.card_journal.proofs.AppendLemmas.{holds_card, torn_differs}
use Rattle.card_journal.proofs.StoreLemmas.{short_live}

-- a blank switch row names bank 0
count_none : (n : ℕ) → count_by (λ byte. byte == 0) (replicate n 255) ≡ 0
count_none zero = refl
count_none (suc n) = count_none n

live_blank : (n : ℕ) → live_of (blank n) ≡ 0
unfolding blank
live_blank n = ap (λ (k : ℕ). k % 2) (count_none n)

-- no rows are those of no card
no_left : (entries : List Record) (held : Durable) → AreCodings [] entries → Leave entries held → ⊥
no_left [] held are left = left
no_left (entry ∷ entries) held are left = are

no_card : (image : List ℕ) → HasRows (live_bytes image) [] → (held : Durable) → HoldsCard image held → ⊥
no_card image rows held holds =
    let none : holds.bodies ≡ [] = unique (live_bytes image) holds.bodies [] (short_live image) holds.rows rows in
    no_left holds.entries held (subst (λ (bs : List (List ℕ)). AreCodings bs holds.entries) none holds.codings) holds.left

module _ (before : List ℕ) (size : length before ≡ 4096 * card_blocks) (is_blank : IsBlank before) where
  row_blank : switch_row before ≡ blank 4096
  row_blank = part-blank 0 9965568 0 4096 before (omega arith) is_blank

  live_first : live_of (switch_row before) ≡ 0
  live_first = ap live_of row_blank ∙ live_blank 4096

  bank_blank : bank_bytes (bank_of 0) before ≡ blank 4980736
  bank_blank = part-blank 0 9965568 4096 4980736 before (omega arith) is_blank

  pub first_blank : (n : ℕ) → n ≤ 4980736 → IsErased 4096 n before
  first_blank n le = part-blank 0 9965568 4096 n before (omega arith) is_blank

  ends_none : EndsBlank (bank_bytes (bank_of 0) before) [] 0
  ends_none =
      EndsBlank-blank (bank_bytes (bank_of 0) before)
      (bank_blank ∙ ap blank (sym (ap length bank_blank ∙ length-blank 4980736)))

  -- which holds no card
  pub blank_none : (held : Durable) → HoldsCard before held → ⊥
  blank_none = no_card before (subst (λ (k : ℕ). HasRows (bank_bytes (bank_of k) before) []) (sym live_first)
      (EndsBlank-rows (bank_bytes (bank_of 0) before) [] 0 ends_none))

  module _ (held : Durable) (entry : Record) (body : List ℕ) (begun : IsBegun entry held) (codes : Codes body entry)
      (fits : 4096 + 5 + length body ≤ end_of (bank_of 0)) where
    live_after : (content : List ℕ) → (n : ℕ) → DiffersIn 4096 n before content → live_of (switch_row content) ≡ 0
    live_after content n differs = ap live_of (part_outside 4096 n before content differs 0 4096 (inl (omega arith))) ∙ live_first

    one_left : Leave (entry ∷ []) held
    one_left = (held, begun, tt, refl)

    -- a torn first row leaves none, or the card of that record
    pub first_torn : (content : List ℕ) → IsTornRow 4096 body before content → HoldsNoneOr held content
    first_torn content torn_row =
        let differs = torn_differs 4096 body before content (omega (arith, size, fits)) torn_row in
        let live = live_after content (5 + length body) differs in
        let at_end : EndsAt (bank_bytes (bank_of 0) before) [] 0 (length body) =
        EndsBlank-ends (bank_bytes (bank_of 0) before) [] 0 ends_none (length body) in
        let rows_of = λ (bodies : List (List ℕ)) (rows : HasRows (bank_bytes (bank_of 0) content) bodies).
        subst (λ (k : ℕ). HasRows (bank_bytes (bank_of k) content) bodies) (sym live) rows in
        ⊎_elim
        (λ none. inl (no_card content (rows_of [] none)))
        (λ one. inr (record {
          bodies = body ∷ [];
          entries = entry ∷ [];
          rows = rows_of (body ∷ []) one;
          codings = (codes, tt);
          left = one_left;
        }))
        (torn_in_bank (bank_of 0) 4096 body before content (omega arith) fits (omega (arith, size)) [] at_end torn_row)

    pub first_clean : EndsClean held 0 (4096 + 5 + length body) (patch before 4096 (row_of body))
    first_clean =
        let long = length-row_of body in
        let differs = DiffersIn-patch before 4096 (row_of body) (omega (arith, size, long, fits)) in
        record {
          live_is = sym (live_after (patch before 4096 (row_of body)) (length (row_of body)) differs);
          bodies = body ∷ [];
          entries = entry ∷ [];
          rows = bank-append (bank_of 0) 4096 before [] (omega arith) (omega (arith, size)) ends_none body fits;
          codings = (codes, tt);
          left = one_left;
        }

-- the first row of a card, on a blank flash
module _ {T E : Type 0} (a c : FlashState) (was : IsFlash card_blocks a) (body : List ℕ) (entry : Record) (result : Result T E)
    (is_blank : IfSome a.bytes IsBlank) (codes : Codes body entry) (fits : 4096 + 5 + length body ≤ end_of (bank_of 0))
    (appends : AppendsRow 4096 body a c result) (torn : LeavesTornRow 4096 body a c) (held : Durable) (begun : IsBegun entry held) where
  sized : (bytes : List ℕ) → a.bytes ≡ Some bytes → length bytes ≡ 4096 * card_blocks
  sized bytes is = flash_size card_blocks a was bytes is

  blank_at : (bytes : List ℕ) → a.bytes ≡ Some bytes → IsBlank bytes
  blank_at bytes is = at_some a.bytes IsBlank bytes is is_blank

  pub first_images : LeavesOnly a c (HoldsNoneOr held)
  first_images says image left =
      let here = known a.bytes (was.bytes_known (appends.touches.time.images_known says)) in
      first_torn here.0 (sized here.0 here.1) (blank_at here.0 here.1) held entry body begun codes fits image
      (at_some a.bytes (λ x. LeavesOnly a c (IsTornRow 4096 body x)) here.0 here.1 torn.images says image left)

  first_ends_of : (r : Result T E) → OnOk r (IfSome a.bytes (λ before. c.bytes ≡ Some (patch before 4096 (row_of body))))
      → OnOk r (IfSome c.bytes (EndsClean held 0 (4096 + 5 + length body)))
  first_ends_of (Err e) done = tt
  first_ends_of (Ok x) done = from_each c.bytes _ (λ now is_now.
      let before = known_before a c appends.touches.time now is_now in
      let patched = at_some a.bytes (λ l. c.bytes ≡ Some (patch l 4096 (row_of body))) before.0 before.1 done in
      subst (EndsClean held 0 (4096 + 5 + length body)) (same_some (patch before.0 4096 (row_of body)) now (sym patched ∙ is_now))
      (first_clean before.0 (sized before.0 before.1) (blank_at before.0 before.1) held entry body begun codes fits))

  pub first_ends : OnOk result (IfSome c.bytes (EndsClean held 0 (4096 + 5 + length body)))
  first_ends = first_ends_of result appends.done

-- the first record of a card fits
pub begun_fits : (entry : Record) (held : Durable) → IsBegun entry held → FitsCard held entry
begun_fits (PutCard mode ports eid next_number next_note notes) held begun =
    record { place = tt; after = subst IsDurable (begun.after held) begun.valid }
begun_fits (PutProfile installation profile port) held begun = absurd begun.begins
begun_fits (Content profile change) held begun = absurd begun.begins
begun_fits (Bind profile port displaced) held begun = absurd begun.begins
begun_fits (Unbind profile) held begun = absurd begun.begins
begun_fits (Gone profiles) held begun = absurd begun.begins
begun_fits (Name profile nickname) held begun = absurd begun.begins
begun_fits (NoteGone number) held begun = absurd begun.begins

-- what holds at a place holds at the place that is returned
pub ends_at : {E : Type 0} (r : Result ℕ E) (s : FlashState) (entry : Record) (n : ℕ) → IfOk r (λ next. next ≡ n)
    → ((held : Durable) → IsBegun entry held → OnOk r (IfSome s.bytes (EndsClean held 0 n)))
    → IfOk r (λ next. (held : Durable) → IsBegun entry held → IfSome s.bytes (EndsClean held 0 next))
ends_at (Ok x) s entry n is ends = λ held begun. subst (λ (k : ℕ). IfSome s.bytes (EndsClean held 0 k)) (sym is) (ends held begun)
ends_at (Err e) s entry n is ends = tt

pub place_at : {E : Type 0} (r : Result ℕ E) (n : ℕ) → IfOk r (λ next. next ≡ n) → IsPlaceIn (bank_of 0) n → IfOk r (IsPlaceIn (bank_of 0))
place_at (Ok x) n is place = subst (IsPlaceIn (bank_of 0)) (sym is) place
place_at (Err e) n is place = tt

-- of a card that a flash ends clean with, and that is settled, nothing else may be left
pub clean_kept : (s : FlashState) (held : Durable) (end : ℕ) → IsSettled s → IfSome s.bytes (EndsClean held 0 end)
    → MayLeaveOnly s (λ content. HoldsCard content held)
clean_kept s held end settled ends = MayLeaveOnly-settled s (λ content. HoldsCard content held) settled
    (from_each s.bytes _ (λ image is. holds_card held 0 end image (at_some s.bytes (EndsClean held 0 end) image is ends)))

-- the first byte that isn't FF
pub used_at : (s : FlashState) (to place : ℕ) (used : Option ℕ) → used ≡ Some place → IfSome s.bytes (FirstUsedIs 0 to used)
    → IfSome s.bytes (IsFirstUsed 0 place)
used_at s to place used is first = from_each s.bytes _ (λ image known_is.
    (at_some s.bytes (FirstUsedIs 0 to (Some place)) image known_is
    (subst (λ (o : Option ℕ). IfSome s.bytes (FirstUsedIs 0 to o)) is first)).1)

-- over reads
pub read_images : (a m : FlashState) (held : Durable) → IsFlash card_blocks a → OnlyReads a m → IfSome a.bytes IsBlank → LeavesOnly a m (HoldsNoneOr held)
read_images a m held was reads is_blank says image left =
    let is : a.bytes ≡ Some image = reads.images says image left in
    inl (blank_none image (flash_size card_blocks a was image is) (at_some a.bytes IsBlank image is is_blank))

-- where no byte was found that isn't FF, the flash is blank, also after reads
pub blank_after : (a b : FlashState) (used : Option ℕ) → b.bytes ≡ a.bytes → ((place : ℕ) → used ≡ Some place → ⊥)
    → IfSome a.bytes (FirstUsedIs 0 9965568 used) → IfSome b.bytes IsBlank
blank_after a b None same none first =
    from_each b.bytes _ (λ image is. at_some a.bytes (FirstUsedIs 0 9965568 None) image (sym same ∙ is) first)
blank_after a b (Some place) same none first = absurd (none place refl)

-- what was only read, and what is blank, is left as it was where it isn't blank
pub used_read : (a b : FlashState) → OnlyReads a b → LeavesUsed a b
used_read a b reads = from_each a.bytes _ (λ image is not. reads)

pub used_blank : (a b : FlashState) → IfSome a.bytes IsBlank → LeavesUsed a b
used_blank a b is_blank = from_each a.bytes _ (λ image is not. absurd (not (at_some a.bytes IsBlank image is is_blank)))

-- the fault that a `?` makes
pub refused_by : {T : Type 0} (r : Result T NotMade) (a b : FlashState) (fault : NotMade) → IsReason fault a b → (y : NotMade) → r ≡ Err y → y ≡ fault
    → IfErr r (λ its. IsReason its a b)
refused_by {T} r a b fault reason y is same =
    let Q : Result T NotMade → Type 0 = λ result. IfErr result (λ its. IsReason its a b) in
    subst Q (sym is) (subst (λ (its : NotMade). IsReason its a b) (sym same) reason)
