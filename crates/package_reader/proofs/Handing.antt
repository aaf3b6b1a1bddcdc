-- What is handed out stood in front of what is left.
use Rattle.std.proofs.Common.{◌≡◌, ℕ, ◌+◌, ◌-◌, ◌≤◌, List, [], ◌∷◌, ◌++◌, length, take, drop, sym}
use Rattle.std.proofs.Common.{◌∙◌, ap, subst, cond, arith}
use Rattle.std.proofs.lemmas.List.{take-append-drop, drop-drop, length-take-le}
use Rattle.ber_tlv.specs.Head.{BeginsWithHead}
use Rattle.package_reader.specs.ReaderState.{ReaderState, opens, IsAtClose}
use Rattle.package_reader.specs.NextHead.{FitsIn, left_in}
use Rattle.package_reader.specs.Part.{HandsOutHead}

pub none_shown : (n : ℕ) (xs : List ℕ) → take (n - n) xs ≡ []
none_shown n xs = let e : n - n ≡ 0 = omega arith in ap (λ k. take k xs) e

-- the next bytes, and those behind them
pub next_bytes : (xs : List ℕ) (read n : ℕ) → drop read xs ≡ take (read + n - read) (drop read xs) ++ drop (read + n) xs
next_bytes xs read n =
    let e : read + n - read ≡ n = omega arith in
    sym (take-append-drop n (drop read xs)) ∙ ap (λ k. take k (drop read xs) ++ drop n (drop read xs)) (sym e)
    ∙ ap (λ ys. take (read + n - read) (drop read xs) ++ ys) (drop-drop n read xs)

pub as_many : (xs : List ℕ) (read n : ℕ) → n ≤ length (drop read xs) → length (take (read + n - read) (drop read xs)) ≡ n
as_many xs read n h =
    let e : read + n - read ≡ n = omega arith in
    ap (λ k. length (take k (drop read xs))) e ∙ length-take-le n (drop read xs) h

pub enters : (old new : ReaderState) (xs : List ℕ) (read size tag n : ℕ) → (¬ IsAtClose old) → old.value ≡ 0
    → old.place ≡ read → old.unread ≡ drop read xs → size ≤ length (drop read xs)
    → BeginsWithHead (drop read xs) tag n (drop size (drop read xs)) → FitsIn (left_in old.ends old.place) (size + n)
    → new.place ≡ read + size → new.unread ≡ drop (read + size) xs → new.shown ≡ take (read + size - read) (drop read xs)
    → new.ends ≡ cond (opens (take (read + size - read) (drop read xs))) (old.ends ++ (read + size + n) ∷ []) old.ends
    → new.value ≡ cond (opens (take (read + size - read) (drop read xs))) 0 n
    → HandsOutHead old tag n read new
enters old new xs read size tag n unended value place unread there begins fits p u s ends left =
    let many = as_many xs read size there in
    let shown : length new.shown ≡ size = ap length s ∙ many in
    record {
      awaited = record { unended = unended; value = value };
      here = sym place;
      takes = record {
        unread = unread ∙ next_bytes xs read size ∙ ap (λ ys. ys ++ drop (read + size) xs) (sym s) ∙ ap (λ ys. new.shown ++ ys) (sym u);
        place = p ∙ (omega arith);
      };
      head = subst (λ (ys : List ℕ). BeginsWithHead ys tag n new.unread) (sym unread) (subst (λ (ys : List ℕ). BeginsWithHead (drop read xs) tag n ys) (drop-drop size read xs ∙ sym u) begins);
      fits = subst (λ (k : ℕ). FitsIn (left_in old.ends old.place) (k + n)) (sym shown) fits;
      ends = ends ∙ ap (λ ys. cond (opens ys) (old.ends ++ (read + size + n) ∷ []) old.ends) (sym s) ∙ ap (λ k. cond (opens new.shown) (old.ends ++ (k + n) ∷ []) old.ends) (sym p);
      value = left ∙ ap (λ ys. cond (opens ys) 0 n) (sym s);
    }
