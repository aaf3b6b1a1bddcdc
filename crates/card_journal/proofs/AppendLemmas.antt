-- A record's row behind those of a card.
use Rattle.std.proofs.Common.{◌≡◌, inl, inr, ℕ, ◌+◌, ◌-◌, ◌<◌, ◌≤◌, List, [], ◌∷◌, ◌++◌, length}
use Rattle.std.proofs.Common.{Some, IfSome, Result, Ok, Err, OnOk, sym, ◌∙◌, ap, subst, arith}
use Rattle.flash_pages.specs.Append.{AppendsRow, HasRowsOrOneMore, IsTornRow, LeavesTornRow}
use Rattle.flash_pages.specs.Bank.{bank_bytes, end_of, start_of}
use Rattle.flash_pages.specs.Bytes.{DiffersIn, patch}
use Rattle.flash_pages.specs.Flash.{FlashState, IsFlash, card_blocks, IsSettled, MayLeaveOnly}
use Rattle.flash_pages.specs.Rows.{HasRows, behind_gate, row_of}
use Rattle.flash_pages.specs.Switch.{live_of}
use Rattle.flash_pages.proofs.BlankBehind.{EndsBlank-ends, EndsBlank-rows, bank-append}
use Rattle.flash_pages.proofs.Outcome.{torn_in_bank}
use Rattle.flash_pages.proofs.Patches.{DiffersIn-patch, DiffersIn-trans, DiffersIn-wider}
use Rattle.flash_pages.proofs.Patches.{part_outside}
use Rattle.flash_pages.proofs.RowLemmas.{length-behind_gate, length-row_of}
use Rattle.flash_pages.proofs.Throughout.{MayLeaveOnly-settled, MayLeaveOnly-weaken}
use Rattle.flash_pages.proofs.Throughout.{Throughout-append, Throughout-begin}
use Rattle.flash_pages.proofs.Touched.{at_some, flash_size, from_each, known_before, same_some}
use Rattle.record_codec.specs.Apply.{apply}
use Rattle.record_codec.specs.FitsCard.{FitsCard}
use Rattle.record_codec.specs.Sizes.{Codes}
use Rattle.record_codec.specs.Spelling.{spelling}
use Rattle.record_codec.specs.declared.durable.Durable.{Durable}
use Rattle.record_codec.specs.declared.record.Record.{Record}
use Rattle.card_journal.specs.Image.{HoldsCard, MakesCard, bank_of, live_bytes, switch_row}
use Rattle.card_journal.specs.Stored.{AppendsRecord, EndsClean, HoldsWith, IsStored}
use Rattle.card_journal.proofs.ImageLemmas.{appended, codings_more, left_more}

-- what ends clean is held
abbrev pub holds_card : (held : Durable) (live end : ℕ) (image : List ℕ) → EndsClean held live end image → HoldsCard image held
holds_card held live end image ends = record {
  bodies = ends.bodies;
  entries = ends.entries;
  rows = subst (λ (k : ℕ). HasRows (bank_bytes (bank_of k) image) ends.bodies) ends.live_is
      (EndsBlank-rows (bank_bytes (bank_of live) image) ends.bodies (end - start_of (bank_of live)) ends.rows);
  codings = ends.codings;
  left = ends.left;
}

-- a torn row differs in its bytes alone
pub torn_differs : (at : ℕ) (body before image : List ℕ) → at + 5 + length body ≤ length before → IsTornRow at body before image
    → DiffersIn at (5 + length body) before image
torn_differs at body before image fits (inl differs) =
    DiffersIn-wider (at + 1) (4 + length body) at (5 + length body) before image (omega arith) (omega arith) differs
torn_differs at body before image fits (inr differs) =
    let size = length-behind_gate body in
    let patched = patch before (at + 1) (behind_gate body) in
    DiffersIn-trans at (5 + length body) before patched image
    (DiffersIn-wider (at + 1) (length (behind_gate body)) at (5 + length body) before patched (omega arith) (omega (arith, size))
    (DiffersIn-patch before (at + 1) (behind_gate body) (omega (arith, size))))
    (DiffersIn-wider at 1 at (5 + length body) patched image (omega arith) (omega arith) differs)

module _ (held : Durable) (live end : ℕ) (before content : List ℕ) (ends : EndsClean held live end before) (at n : ℕ) (behind : 4096 ≤ at)
    (differs : DiffersIn at n before content) where
  -- the switch row is as it was
  pub live_still : live ≡ live_of (switch_row content)
  live_still = ends.live_is ∙ sym (ap live_of (part_outside at n before content differs 0 4096 (inl behind)))

  rows_of_live : (bodies : List (List ℕ)) → HasRows (bank_bytes (bank_of live) content) bodies → HasRows (live_bytes content) bodies
  rows_of_live bodies rows = subst (λ (k : ℕ). HasRows (bank_bytes (bank_of k) content) bodies) live_still rows

  -- what is held with the rows of before, or with one more
  pub torn_holds : (entry : Record) (body : List ℕ) → FitsCard held entry → (MakesCard entry → ⊥) → Codes body entry
      → HasRowsOrOneMore (bank_bytes (bank_of live) content) ends.bodies body → HoldsWith held (Some entry) content
  torn_holds entry body fits old codes (inl rows) = inl (record {
    bodies = ends.bodies;
    entries = ends.entries;
    rows = rows_of_live ends.bodies rows;
    codings = ends.codings;
    left = ends.left;
  })
  torn_holds entry body fits old codes (inr rows) =
      inr (appended before content held entry body (holds_card held live end before ends) (rows_of_live (ends.bodies ++ body ∷ []) rows) codes old fits)

-- one more row
row_added : (held : Durable) (live end : ℕ) (before : List ℕ) (ends : EndsClean held live end before) (entry : Record) (body : List ℕ)
    → start_of (bank_of live) ≤ end → end + 5 + length body ≤ end_of (bank_of live) → end_of (bank_of live) ≤ length before
    → FitsCard held entry → (MakesCard entry → ⊥) → Codes body entry
    → EndsClean (apply held entry) live (end + 5 + length body) (patch before end (row_of body))
row_added held live end before ends entry body from_start fits inside takes old codes =
    let size = length-row_of body in
    let after = patch before end (row_of body) in
    let differs : DiffersIn end (length (row_of body)) before after = DiffersIn-patch before end (row_of body) (omega (arith, size)) in
    record {
      live_is = live_still held live end before after ends end (length (row_of body)) (omega arith) differs;
      bodies = ends.bodies ++ body ∷ [];
      entries = ends.entries ++ entry ∷ [];
      rows = bank-append (bank_of live) end before ends.bodies from_start inside ends.rows body fits;
      codings = codings_more ends.bodies ends.entries body entry ends.codings codes;
      left = left_more ends.entries held entry ends.left old takes;
    }

-- a row of a record was appended to a bank, or that failed
pub record AddsRow {T E : Type 0} (a c : FlashState) (live end : ℕ) (entry : Record) (result : Result T E) : Type 0 where
  pub was : IsFlash card_blocks a
  pub lawful : IsFlash card_blocks c
  pub bank : live < 2
  pub from_start : start_of (bank_of live) ≤ end
  pub fits : end + 5 + length (spelling entry) ≤ end_of (bank_of live)
  pub codes : Codes (spelling entry) entry
  pub appends : AppendsRow end (spelling entry) a c result
  pub torn : LeavesTornRow end (spelling entry) a c

module _ {T E : Type 0} (a c : FlashState) (live end : ℕ) (entry : Record) (result : Result T E) (adds : AddsRow a c live end entry result)
    (held : Durable) (takes : FitsCard held entry) (old : MakesCard entry → ⊥) (ends_clean : IfSome a.bytes (EndsClean held live end)) where
  inside : (bytes : List ℕ) → a.bytes ≡ Some bytes → end_of (bank_of live) ≤ length bytes
  inside bytes is = omega (arith, flash_size card_blocks a adds.was bytes is, adds.bank)

  outlives : (bytes content : List ℕ) → a.bytes ≡ Some bytes → IsTornRow end (spelling entry) bytes content → HoldsWith held (Some entry) content
  outlives bytes content is torn_row =
      let ends : EndsClean held live end bytes = at_some a.bytes (EndsClean held live end) bytes is ends_clean in
      let in_flash = inside bytes is in
      let differs = torn_differs end (spelling entry) bytes content (omega (arith, adds.fits, in_flash)) torn_row in
      let at_end = EndsBlank-ends (bank_bytes (bank_of live) bytes) ends.bodies (end - start_of (bank_of live)) ends.rows (length (spelling entry)) in
      let rows = torn_in_bank (bank_of live) end (spelling entry) bytes content adds.from_start adds.fits in_flash ends.bodies at_end torn_row in
      torn_holds held live end bytes content ends end (5 + length (spelling entry)) (omega (arith, adds.from_start)) differs entry (spelling entry) takes old
      adds.codes rows

  added_ends : (r : Result T E) → OnOk r (IfSome a.bytes (λ before. c.bytes ≡ Some (patch before end (row_of (spelling entry)))))
      → OnOk r (IfSome c.bytes (EndsClean (apply held entry) live (end + 5 + length (spelling entry))))
  added_ends (Err e) done = tt
  added_ends (Ok x) done = from_each c.bytes _ (λ now is_now.
      let was = known_before a c adds.appends.touches.time now is_now in
      let patched = at_some a.bytes (λ l. c.bytes ≡ Some (patch l end (row_of (spelling entry)))) was.0 was.1 done in
      let ends : EndsClean held live end was.0 = at_some a.bytes (EndsClean held live end) was.0 was.1 ends_clean in
      subst (EndsClean (apply held entry) live (end + 5 + length (spelling entry)))
      (same_some (patch was.0 end (row_of (spelling entry))) now (sym patched ∙ is_now))
      (row_added held live end was.0 ends entry (spelling entry) adds.from_start adds.fits (inside was.0 was.1) takes old adds.codes))

  -- after Ok it ends clean with the row
  pub adds_ends : OnOk result (IfSome c.bytes (EndsClean (apply held entry) live (end + 5 + length (spelling entry))))
  adds_ends = added_ends result adds.appends.done

  added : (r : Result T E) → OnOk r (IfSome a.bytes (λ before. c.bytes ≡ Some (patch before end (row_of (spelling entry)))))
      → OnOk r (IsSettled c) → OnOk r (IsStored c (apply held entry) live (end + 5 + length (spelling entry)))
  added (Err e) done settled = tt
  added (Ok x) done settled =
      let bytes : IfSome c.bytes (EndsClean (apply held entry) live (end + 5 + length (spelling entry))) = added_ends (Ok x) done in
      record {
        bytes = bytes;
        may_leave = MayLeaveOnly-settled c (λ content. HoldsCard content (apply held entry)) settled
            (from_each c.bytes _ (λ now is_now.
            holds_card (apply held entry) live (end + 5 + length (spelling entry)) now (at_some c.bytes _ now is_now bytes)));
      }

  pub adds_record : MayLeaveOnly a (λ content. HoldsCard content held)
      → AppendsRecord held entry live (end + 5 + length (spelling entry)) a c result
  adds_record may_leave = record {
    throughout = Throughout-append card_blocks a a c (HoldsWith held (Some entry)) adds.was adds.lawful
        (Throughout-begin card_blocks a (HoldsWith held (Some entry)) adds.was
        (MayLeaveOnly-weaken a (λ content. HoldsCard content held) (HoldsWith held (Some entry)) (λ content holds. inl holds) may_leave))
        end (spelling entry) adds.appends.touches.time adds.torn
        (λ bytes content is before torn_row. outlives bytes content is torn_row);
    done = added result adds.appends.done adds.appends.settled;
  }
