-- A row appended in two steps: what stands behind its gate, and the gate.
use Rattle.std.proofs.Common.{◌≡◌, inl, inr, ℕ, ◌+◌, ◌-◌, ◌*◌, ◌≤◌, IsTrue, List, [], ◌∷◌, ◌++◌}
use Rattle.std.proofs.Common.{length, Some, IfSome, Result, Ok, Err, IsErr, is_ok, OnOk, sym, ◌∙◌}
use Rattle.std.proofs.Common.{ap, arith}
use Rattle.std.proofs.lemmas.Bool.{false≢true}
use Rattle.flash_pages.specs.declared.bank.Bank.{Bank}
use Rattle.flash_pages.specs.Append.{IsTornRow, EndsAt, AppendsRow, LeavesTornRow, KeepsRows}
use Rattle.flash_pages.specs.Bank.{start_of, end_of, bank_bytes}
use Rattle.flash_pages.specs.Bytes.{blank, part, patch, DiffersIn}
use Rattle.flash_pages.specs.Flash.{FlashState, block_len, card_blocks, IsFlash, HasImages}
use Rattle.flash_pages.specs.Flash.{LeavesOnly, AddsOnly, Changes, Touches}
use Rattle.flash_pages.specs.Rows.{behind_gate, row_of, HasRows}
use Rattle.flash_pages.proofs.Patches.{patch_gate, part_before, part-blank, take-patch-prefix}
use Rattle.flash_pages.proofs.Touched.{at_some, from_each, same_some, flash_size, LeavesOnly-trans}
use Rattle.flash_pages.proofs.Touched.{AddsOnly-trans, AddsOnly-weaken, Touches-wider}
use Rattle.flash_pages.proofs.Touched.{Touches-trans, Touches-from_changes}
use Rattle.flash_pages.proofs.RowLemmas.{length-behind_gate}
use Rattle.flash_pages.proofs.Outcome.{torn_in_bank, appended_in_bank}

-- nothing is said of an Ok where there is none
on_err : {T E : Type 0} (r : Result T E) (P : Type 0) → IsErr r → OnOk r P
on_err (Ok x) P err = absurd (false≢true err)
on_err (Err e) P err = tt

-- a failure before the gate
module _ (a b : FlashState) (at : ℕ) (body : List ℕ)
    (first : Touches (at + 1) (4 + length body) a b) where
  pub torn_first : LeavesTornRow at body a b
  torn_first = record {
    bytes = from_each a.bytes _ (λ before is. from_each b.bytes _
        (λ now is_now. inl
        (at_some b.bytes _ now is_now (at_some a.bytes _ before is first.bytes))));
    may_leave = from_each a.bytes _
        (λ before is. AddsOnly-weaken a b _ _ (λ image differs. inl differs)
        (at_some a.bytes
        (λ x. AddsOnly a b
        (DiffersIn (at + 1) (4 + length body) x)) before is first.may_leave));
    images = from_each a.bytes _ (λ before is says image left. inl
        (at_some a.bytes
        (λ x. LeavesOnly a b
        (DiffersIn (at + 1) (4 + length body) x)) before is first.images says
        image left));
  }

  pub touches_first : Touches at (5 + length body) a b
  touches_first =
      Touches-wider (at + 1) (4 + length body) at (5 + length body) a b (omega arith)
      (omega arith) first

  pub appends_first : {T E : Type 0} (result : Result T E) → IsErr result → b.erased ≡ a.erased
      → AppendsRow at body a b result
  appends_first result err erased = record {
    done = on_err result _ err;
    settled = on_err result _ err;
    erased = erased;
    touches = touches_first;
  }

-- length and body were programmed from a to b, and the gate from b to c
pub record IsGated {E : Type 0} (blocks : ℕ) (a b c : FlashState) (at : ℕ) (body : List ℕ)
    (result : Result Unit E) : Type 0 where
  pub lawful : IsFlash blocks c
  pub first : Touches (at + 1) (4 + length body) a b
  pub content : IfSome a.bytes (λ before. b.bytes ≡ Some (patch before (at + 1) (behind_gate body)))
  pub gate : Changes at (0 ∷ []) b c result
  pub early : b.erased ≡ a.erased
  pub late : c.erased ≡ b.erased

module _ {E : Type 0} (blocks : ℕ) (a b c : FlashState) (at : ℕ) (body : List ℕ)
    (result : Result Unit E) (gated : IsGated blocks a b c at body result) where
  abbrev patched : List ℕ → List ℕ
  patched before = patch before (at + 1) (behind_gate body)

  content_at : (before : List ℕ) → a.bytes ≡ Some before → b.bytes ≡ Some (patched before)
  content_at before is = at_some a.bytes _ before is gated.content

  torn_before : LeavesTornRow at body a b
  torn_before = torn_first a b at body gated.first

  touches_both : Touches at (5 + length body) a c
  touches_both =
      let late = Touches-from_changes at (0 ∷ []) b c result gated.gate in
      Touches-trans blocks at (5 + length body) a b c gated.lawful
      (touches_first a b at body gated.first)
      (Touches-wider at 1 at (5 + length body) b c (omega arith) (omega arith) late)

  pub torn_both : LeavesTornRow at body a c
  torn_both = record {
    bytes = from_each a.bytes _ (λ before is. from_each c.bytes _ (λ now is_now.
        let Now : List ℕ → Type 0 = λ x. IfSome c.bytes (DiffersIn at 1 x) in
        let differs = at_some b.bytes Now (patched before) (content_at before is) gated.gate.torn in
        inr (at_some c.bytes _ now is_now differs)));
    may_leave = from_each a.bytes _ (λ before is.
        let early : AddsOnly a b (IsTornRow at body before) =
        at_some a.bytes (λ x. AddsOnly a b (IsTornRow at body x)) before is torn_before.may_leave in
        let Late : List ℕ → Type 0 = λ x. AddsOnly b c (DiffersIn at 1 x) in
        let late : AddsOnly b c (DiffersIn at 1 (patched before)) =
        at_some b.bytes Late (patched before) (content_at before is) gated.gate.may_leave in
        AddsOnly-trans a b c (IsTornRow at body before) gated.gate.time early
        (AddsOnly-weaken b c _ _ (λ image differs. inr differs) late));
    images = from_each a.bytes _ (λ before is.
        let early : LeavesOnly a b (IsTornRow at body before) =
        at_some a.bytes (λ x. LeavesOnly a b (IsTornRow at body x)) before is torn_before.images in
        let Late : List ℕ → Type 0 = λ x. HasImages b c (DiffersIn at 1 x) in
        let late : HasImages b c (DiffersIn at 1 (patched before)) =
        at_some b.bytes Late (patched before) (content_at before is) gated.gate.images in
        LeavesOnly-trans a b c (IsTornRow at body before) gated.first.time gated.gate.time early
        (λ says image left. inr ((late says image).0 left)));
  }

  done_both : IsTrue (is_ok result) → (before : List ℕ) → a.bytes ≡ Some before
      → at + 5 + length body ≤ length before → c.bytes ≡ Some (patch before at (row_of body))
  done_both ok before is fits =
      let fits_behind : at + 1 + length (behind_gate body) ≤ length before =
      omega (arith, length-behind_gate body) in
      at_some b.bytes (λ x. c.bytes ≡ Some (patch x at (0 ∷ []))) (patched before)
      (content_at before is) (gated.gate.done ok)
      ∙ ap Some (patch_gate before at 0 (behind_gate body) fits_behind)

  pub appends_failed : {T F : Type 0} (answer : Result T F) → IsErr answer
      → AppendsRow at body a c answer
  appends_failed answer err = record {
    done = on_err answer _ err;
    settled = on_err answer _ err;
    erased = gated.late ∙ gated.early;
    touches = touches_both;
  }

  pub appends_done : {T F : Type 0} (x : T) → IsTrue (is_ok result)
      → ((before : List ℕ) → a.bytes ≡ Some before → at + 5 + length body ≤ length before)
      → AppendsRow {T = T} {E = F} at body a c (Ok x)
  appends_done x ok fits = record {
    done = from_each a.bytes _ (λ before is. done_both ok before is (fits before is));
    settled = gated.gate.settled ok;
    erased = gated.late ∙ gated.early;
    touches = touches_both;
  }

-- the gate reads FF until it is programmed
pub gate_erased : (before : List ℕ) (at : ℕ) (body : List ℕ) → at + 5 + length body ≤ length before
    → part at (5 + length body) before ≡ blank (5 + length body)
    → part at 1 (patch before (at + 1) (behind_gate body)) ≡ blank 1
gate_erased before at body fits erased =
    let here : at + 0 ≡ at = omega arith in
    part_before at 1 (at + 1) (patch before (at + 1) (behind_gate body)) before (omega arith)
    (take-patch-prefix before (at + 1) (behind_gate body) (omega (arith, length-behind_gate body)))
    ∙ sym (ap (λ (k : ℕ). part k 1 before) here)
    ∙ part-blank at (5 + length body) 0 1 before (omega arith) erased

-- a row that fits the bank fits the flash
pub row_fits : (before : List ℕ) (at len : ℕ) (bank : Bank) {a : FlashState} → IsFlash card_blocks a
    → a.bytes ≡ Some before → at + 5 + len ≤ end_of bank → bank.first + bank.blocks ≤ card_blocks
    → at + 5 + len ≤ length before
row_fits before at len bank {a} lawful is fits inside =
    let size : length before ≡ block_len * card_blocks =
    flash_size card_blocks a lawful before is in
    omega (arith, size, fits, inside)

-- what stands behind the gate reads FF at first
pub rest_erased : (before : List ℕ) (at len : ℕ) → part at (5 + len) before ≡ blank (5 + len)
    → part (at + 1) (4 + len) before ≡ blank (4 + len)
rest_erased before at len erased = part-blank at (5 + len) 1 (4 + len) before (omega arith) erased

-- the open rows of the bank
module _ {T E : Type 0} (blocks : ℕ) (a c : FlashState) (bank : Bank) (at : ℕ) (body : List ℕ)
    (result : Result T E)
    (lawful : IsFlash blocks a) (from_start : start_of bank ≤ at)
    (fits : at + 5 + length body ≤ end_of bank)
    (inside : bank.first + bank.blocks ≤ blocks) (torn : LeavesTornRow at body a c)
    (appends : AppendsRow at body a c result) where
  abbrev Rows : List ℕ → Type 0
  Rows before = (bodies : List (List ℕ))
      → EndsAt (bank_bytes bank before) bodies (at - start_of bank) (length body)
      → KeepsRows bank bodies body a c result

  pub rows_after : IfSome a.bytes Rows
  rows_after = from_each a.bytes _ (λ before is bodies ends.
      let size : length before ≡ block_len * blocks = flash_size blocks a lawful before is in
      let in_flash : end_of bank ≤ length before = omega arith in
      let kept = λ (image : List ℕ).
      torn_in_bank bank at body before image from_start fits in_flash bodies ends in
      record {
        bytes = from_each c.bytes _ (λ now is_now. kept now
            (at_some c.bytes _ now is_now
            (at_some a.bytes (λ x. IfSome c.bytes (IsTornRow at body x)) before is torn.bytes)));
        may_leave = AddsOnly-weaken a c _ _ kept
            (at_some a.bytes (λ x. AddsOnly a c (IsTornRow at body x)) before is torn.may_leave);
        images = λ says image left. kept image
            (at_some a.bytes
            (λ x. LeavesOnly a c (IsTornRow at body x)) before is torn.images says image left);
        done = ok_rows result before bodies ends is in_flash appends.done;
      })
    where
      ok_rows : (r : Result T E) (before : List ℕ) (bodies : List (List ℕ))
          → EndsAt (bank_bytes bank before) bodies (at - start_of bank) (length body)
          → a.bytes ≡ Some before
          → end_of bank ≤ length before
          → OnOk r (IfSome a.bytes (λ x. c.bytes ≡ Some (patch x at (row_of body))))
          → OnOk r (IfSome c.bytes (λ bytes. HasRows (bank_bytes bank bytes) (bodies ++ body ∷ [])))
      ok_rows (Err e) before bodies ends is in_flash done = tt
      ok_rows (Ok x) before bodies ends is in_flash done = from_each c.bytes _ (λ now is_now.
          let patched = at_some a.bytes
          (λ l. c.bytes ≡ Some (patch l at (row_of body))) before is done in
          appended_in_bank bank at body before now from_start fits in_flash bodies ends
          (same_some now (patch before at (row_of body)) (sym is_now ∙ patched)))
