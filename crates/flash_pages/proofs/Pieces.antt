-- One more piece of a list that is programmed piece by piece.
use Rattle.std.proofs.Common.{◌≡◌, ℕ, ◌+◌, ◌*◌, ◌≤◌, IsTrue, List, ◌++◌, length, take, drop, Some}
use Rattle.std.proofs.Common.{IfSome, Result, is_ok, sym, ◌∙◌, ap, arith}
use Rattle.std.proofs.lemmas.List.{length-take-le}
use Rattle.std.proofs.Math.Seq.{take-add}
use Rattle.flash_pages.specs.Bytes.{blank, part, patch}
use Rattle.flash_pages.specs.Flash.{FlashState, block_len, IsFlash, IsRange, Changes, Touches}
use Rattle.flash_pages.specs.Rows.{behind_gate}
use Rattle.flash_pages.proofs.RowLemmas.{length-behind_gate}
use Rattle.flash_pages.proofs.Patches.{drop-patch, patch-patch, part-blank}
use Rattle.flash_pages.proofs.Touched.{at_some, from_each, known_before, same_some, flash_size}
use Rattle.flash_pages.proofs.Touched.{Touches-wider, Touches-trans, Touches-from_changes}

-- b is a after some pieces of this list, and these bytes are the next one
pub record IsNextPiece (blocks : ℕ) (a b : FlashState) (place done len : ℕ)
    (tail bytes : List ℕ) : Type 0 where
  pub lawful : IsFlash blocks a
  pub size : length tail ≡ len
  pub inside : IsRange blocks place len
  pub within : done + length bytes ≤ len
  pub is_part : bytes ≡ part done (length bytes) tail
  pub touches : Touches place len a b
  pub content : IfSome a.bytes (λ before. b.bytes ≡ Some (patch before place (take done tail)))

-- a piece that was filled into the first bytes of a buffer
pub next_piece : (blocks : ℕ) (a b : FlashState) (place done n : ℕ) (body buffer bytes : List ℕ)
    → IsFlash blocks a
    → IsRange blocks place (4 + length body) → n ≤ length buffer → done + n ≤ 4 + length body
    → length bytes ≡ length (take n buffer)
    → bytes ≡ part done (length (take n buffer)) (behind_gate body)
    → Touches place (4 + length body) a b
    → IfSome a.bytes (λ before. b.bytes ≡ Some (patch before place (take done (behind_gate body))))
    → IsNextPiece blocks a b place done (4 + length body) (behind_gate body) bytes
next_piece blocks a b place done n body buffer bytes lawful inside enough within long is touches
    content = record {
      lawful = lawful;
      size = length-behind_gate body;
      inside = inside;
      within = omega (arith, within, long, length-take-le n buffer enough);
      is_part = is ∙ ap (λ (k : ℕ). part done k (behind_gate body)) (sym long);
      touches = touches;
      content = content;
    }

module _ (blocks : ℕ) (a b : FlashState) (place done len : ℕ) (tail bytes : List ℕ)
    (piece : IsNextPiece blocks a b place done len tail bytes) where
  prefix_length : length (take done tail) ≡ done
  prefix_length = length-take-le done tail (omega (arith, piece.size, piece.within))

  prefix_fits : (before : List ℕ) → a.bytes ≡ Some before
      → place + length (take done tail) ≤ length before
  prefix_fits before is =
      let long : length before ≡ block_len * blocks = flash_size blocks a piece.lawful before is in
      omega (arith, prefix_length, piece.inside, piece.within)

  next_place : place + length (take done tail) ≡ place + done
  next_place = ap (λ (k : ℕ). place + k) prefix_length

  -- it reads FF
  pub next_erased : IfSome a.bytes (λ before. part place len before ≡ blank len)
      → IfSome b.bytes (λ now. part (place + done) (length bytes) now ≡ blank (length bytes))
  next_erased erased = from_each b.bytes _ (λ now is_now.
      let was = known_before a b piece.touches.time now is_now in
      let before = was.0 in
      let patched = patch before place (take done tail) in
      let now_is : now ≡ patch before place (take done tail) =
      same_some now patched (sym is_now ∙ at_some a.bytes _ before was.1 piece.content) in
      let behind : drop (place + done) now ≡ drop (place + done) before =
      ap (drop (place + done)) now_is ∙ ap (λ (k : ℕ). drop k patched) (sym next_place)
      ∙ drop-patch before place (take done tail) (prefix_fits before was.1)
      ∙ ap (λ (k : ℕ). drop k before) next_place in
      ap (take (length bytes)) behind
      ∙ part-blank place len done (length bytes) before piece.within
      (at_some a.bytes _ before was.1 erased))

  module _ {E : Type 0} (c : FlashState) (result : Result Unit E) (lawful_after : IsFlash blocks c)
      (changes : Changes (place + done) bytes b c result) where
    pub next_touches : Touches place len a c
    next_touches =
        Touches-trans blocks place len a b c lawful_after piece.touches
        (Touches-wider (place + done) (length bytes) place len b c (omega arith)
        (omega (arith, piece.within))
        (Touches-from_changes (place + done) bytes b c result changes))

    pub next_content : IsTrue (is_ok result)
        → IfSome a.bytes
        (λ before. c.bytes ≡ Some (patch before place (take (done + length bytes) tail)))
    next_content ok = from_each a.bytes _ (λ before is.
        let prefix = take done tail in
        let joined : prefix ++ bytes ≡ take (done + length bytes) tail =
        ap (λ (l : List ℕ). prefix ++ l) piece.is_part ∙ sym (take-add done (length bytes) tail) in
        at_some b.bytes (λ x. c.bytes ≡ Some (patch x (place + done) bytes))
        (patch before place prefix)
        (at_some a.bytes _ before is piece.content) (changes.done ok)
        ∙ ap (λ (k : ℕ). Some (patch (patch before place prefix) k bytes)) (sym next_place)
        ∙ ap Some (patch-patch before place prefix (prefix_fits before is) bytes)
        ∙ ap (λ (l : List ℕ). Some (patch before place l)) joined)
