-- For the stores above: a bank of which all is FF behind its open rows.
use Rattle.std.proofs.Common.{◌≡◌, ℕ, zero, suc, ◌+◌, ◌-◌, ◌*◌, ◌≤◌, List, [], ◌∷◌, ◌++◌, length}
use Rattle.std.proofs.Common.{take, drop, refl, sym, ◌∙◌, ap, subst, arith, append_assoc}
use Rattle.std.proofs.Common.{length-append}
use Rattle.std.proofs.lemmas.List.{take_at, drop_at, drop-drop, drop-replicate, take-replicate}
use Rattle.std.proofs.lemmas.List.{replicate-append-replicate}
use Rattle.std.proofs.Math.Seq.{take-add}
use Rattle.flash_pages.specs.declared.bank.Bank.{Bank}
use Rattle.flash_pages.specs.Append.{EndsAt, EndsBlank}
use Rattle.flash_pages.specs.Bank.{start_of, end_of, bank_bytes}
use Rattle.flash_pages.specs.Bytes.{blank, part, patch, IsErased}
use Rattle.flash_pages.specs.Rows.{row_of, open_rows, IsClosed, HasRows, RowsUpTo}
use Rattle.flash_pages.proofs.Outcome.{open_rows-push, length-bank_bytes}
use Rattle.flash_pages.proofs.Patches.{length-blank, length-patch, take-patch-prefix, part_before}
use Rattle.flash_pages.proofs.Patches.{part-part, part-patch, part-patch_same}
use Rattle.flash_pages.proofs.Reading.{length-open_rows-push, split, rest_of_bank}
use Rattle.flash_pages.proofs.RowLemmas.{length-row_of}

drop-blank : (k n : ℕ) → drop k (blank n) ≡ blank (n - k)
unfolding blank
drop-blank k n = drop-replicate k n 255

take-blank : (k n : ℕ) → k ≤ n → take k (blank n) ≡ blank k
unfolding blank
take-blank k n le = take-replicate k n 255 le

closed-blank : (n : ℕ) → IsClosed (blank n)
unfolding blank
closed-blank zero = tt
closed-blank (suc n) = λ is. absurd (omega (arith, is))

blank-add : (n m : ℕ) → blank (n + m) ≡ blank n ++ blank m
unfolding blank
blank-add n m = sym (replicate-append-replicate n m 255)

-- two parts of FF, one behind the other
pub blank-more : (at n m : ℕ) (bytes : List ℕ) → part at n bytes ≡ blank n
    → part (at + n) m bytes ≡ blank m
    → part at (n + m) bytes ≡ blank (n + m)
blank-more at n m bytes first second =
    take-add n m (drop at bytes)
    ∙ ap (λ (l : List ℕ). l ++ take m (drop n (drop at bytes))) first
    ∙ ap (λ (l : List ℕ). blank n ++ take m l) (drop-drop n at bytes)
    ∙ ap (λ (l : List ℕ). blank n ++ l) second
    ∙ sym (blank-add n m)

-- one more part erased behind one that is
pub erased-more : (at n m : ℕ) (bytes : List ℕ) → at + n + m ≤ length bytes → IsErased at n bytes
    → IsErased at (n + m) (patch bytes (at + n) (blank m))
erased-more at n m bytes fits erased =
    let size = length-blank m in
    let inside : at + n + length (blank m) ≤ length bytes = omega (arith, size) in
    let new = patch bytes (at + n) (blank m) in
    let outside = part_before at n (at + n) new bytes (omega arith)
    (take-patch-prefix bytes (at + n) (blank m) inside) in
    blank-more at n m new (outside ∙ erased)
    (ap (λ (k : ℕ). part (at + n) k new) (sym size)
    ∙ part-patch_same bytes (at + n) (blank m) inside)

-- rows that were read, behind which all is FF
pub EndsBlank-read : (bytes : List ℕ) (bodies : List (List ℕ)) (place : ℕ)
    → RowsUpTo bytes bodies place
    → drop place bytes ≡ blank (length bytes - place) → EndsBlank bytes bodies place
EndsBlank-read bytes bodies place so_far behind = record {
  end = so_far.end;
  rows = split bytes bodies place so_far (blank (length bytes - place)) behind;
}

-- an erased bank has no rows
pub EndsBlank-blank : (bytes : List ℕ) → bytes ≡ blank (length bytes) → EndsBlank bytes [] 0
EndsBlank-blank bytes is =
    let all : length bytes ≡ length bytes - 0 = omega arith in
    record { end = refl; rows = is ∙ ap blank all }

module _ (bytes : List ℕ) (bodies : List (List ℕ)) (place : ℕ)
    (ends : EndsBlank bytes bodies place) where
  abbrev behind : ℕ
  behind = length bytes - place

  within : place ≤ length bytes
  within = omega
      (arith, ends.end, ap length ends.rows, length-append (open_rows bodies) (blank behind))

  drop-behind : drop place bytes ≡ blank behind
  drop-behind =
      ap (drop place) ends.rows
      ∙ drop_at (open_rows bodies) (blank behind) place (sym ends.end)

  drop-further : (k : ℕ) → drop (place + k) bytes ≡ blank (behind - k)
  drop-further k =
      sym (drop-drop k place bytes) ∙ ap (drop k) drop-behind ∙ drop-blank k behind

  -- its open rows
  pub EndsBlank-rows : HasRows bytes bodies
  EndsBlank-rows = (blank behind, ends.rows, closed-blank behind)

  -- a row may be appended there
  pub EndsBlank-ends : (len : ℕ) → EndsAt bytes bodies place len
  EndsBlank-ends len = record {
    rows = EndsBlank-rows;
    end = ends.end;
    behind = let to : place + (5 + len) ≡ place + 5 + len = omega arith in
        subst IsClosed
        (sym (ap (λ (k : ℕ). drop k bytes) (sym to) ∙ drop-further (5 + len)))
        (closed-blank (behind - (5 + len)));
  }

  -- the bytes that it takes read FF
  pub EndsBlank-erased : (n : ℕ) → place + n ≤ length bytes → part place n bytes ≡ blank n
  EndsBlank-erased n fits =
      ap (take n) drop-behind ∙ take-blank n behind (omega (arith, fits, within))

  -- and after it the rest still does
  pub EndsBlank-append : (body : List ℕ) → place + 5 + length body ≤ length bytes
      → EndsBlank (patch bytes place (row_of body)) (bodies ++ body ∷ []) (place + 5 + length body)
  EndsBlank-append body fits =
      let row = row_of body in
      let row_length = length-row_of body in
      let size = length-patch bytes place row (omega (arith, row_length, fits)) in
      let next : place + length row ≡ place + (5 + length body) =
      ap (λ (k : ℕ). place + k) row_length in
      let left : behind - (5 + length body) ≡ length (patch bytes place row) -
      (place + 5 + length body) =
      omega (arith, size, within) in
      let prefix : take place bytes ≡ open_rows bodies =
      ap (take place) ends.rows ∙ take_at (open_rows bodies) (blank behind) place (sym ends.end) in
      let rest : drop (place + length row) bytes ≡ blank
      (length (patch bytes place row) - (place + 5 + length body)) =
      ap (λ (k : ℕ). drop k bytes) next ∙ drop-further (5 + length body) ∙ ap blank left in
      record {
        end = omega (arith, length-open_rows-push bodies body, ends.end);
        rows = ap (λ (l : List ℕ). l ++ row ++ drop (place + length row) bytes) prefix
            ∙ append_assoc (open_rows bodies) row (drop (place + length row) bytes)
            ∙ sym (open_rows-push bodies body (drop (place + length row) bytes))
            ∙ ap (λ (l : List ℕ). open_rows (bodies ++ body ∷ []) ++ l) rest;
      }

-- the same of a bank in a flash
module _ (bank : Bank) (at : ℕ) (image : List ℕ) (bodies : List (List ℕ))
    (from_start : start_of bank ≤ at)
    (inside : end_of bank ≤ length image)
    (ends : EndsBlank (bank_bytes bank image) bodies (at - start_of bank)) where
  abbrev place_in : ℕ
  place_in = at - start_of bank

  there : start_of bank + place_in ≡ at
  there = omega arith

  pub bank-erased : (n : ℕ) → at + n ≤ end_of bank → part at n image ≡ blank n
  bank-erased n fits =
      let size = length-bank_bytes bank image inside in
      ap (λ (k : ℕ). part k n image) (sym there)
      ∙ sym (part-part (start_of bank) (4096 * bank.blocks) place_in n image (omega arith))
      ∙ EndsBlank-erased (bank_bytes bank image) bodies place_in ends n (omega (arith, size))

  pub bank-append : (body : List ℕ) → at + 5 + length body ≤ end_of bank
      → EndsBlank (bank_bytes bank (patch image at (row_of body))) (bodies ++ body ∷ [])
      ((at + 5 + length body) - start_of bank)
  bank-append body fits =
      let size = length-bank_bytes bank image inside in
      let moved : bank_bytes bank (patch image at (row_of body)) ≡ patch
      (bank_bytes bank image) place_in (row_of body) =
      ap (λ (k : ℕ). bank_bytes bank (patch image k (row_of body))) (sym there)
      ∙ part-patch (start_of bank) (4096 * bank.blocks) place_in image (row_of body)
      (omega (arith, length-row_of body)) (omega (arith, length-row_of body)) in
      let next : place_in + 5 + length body ≡ (at + 5 + length body) - start_of bank =
      omega arith in
      let appended =
      EndsBlank-append (bank_bytes bank image) bodies place_in ends body (omega (arith, size)) in
      let P : List ℕ → Type 0 =
      λ l. EndsBlank l (bodies ++ body ∷ []) ((at + 5 + length body) - start_of bank) in
      let Q : ℕ → Type 0 =
      λ k. EndsBlank (patch (bank_bytes bank image) place_in (row_of body))
      (bodies ++ body ∷ []) k in
      subst P (sym moved) (subst Q next appended)

-- rows that were read in a bank, up to a place from which on all its bytes are FF
pub bank-blank : (bank : Bank) (at : ℕ) (image : List ℕ) (bodies : List (List ℕ))
    → start_of bank ≤ at
    → at ≤ end_of bank → end_of bank ≤ length image
    → RowsUpTo (bank_bytes bank image) bodies (at - start_of bank)
    → IsErased at (end_of bank - at) image
    → EndsBlank (bank_bytes bank image) bodies (at - start_of bank)
bank-blank bank at image bodies from_start to_end inside so_far erased =
    let size = length-bank_bytes bank image inside in
    let left : end_of bank - at ≡ length (bank_bytes bank image) - (at - start_of bank) =
    omega (arith, size) in
    EndsBlank-read (bank_bytes bank image) bodies (at - start_of bank) so_far
    (sym (rest_of_bank bank at image from_start to_end) ∙ erased ∙ ap blank left)
