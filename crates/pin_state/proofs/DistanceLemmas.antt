use Rattle.std.proofs.Common.{◌≡◌, ◌≢◌, ◌&&◌, inl, inr, ℕ, zero, suc, ◌+◌, ◌-◌, ◌<◌, Bool, List, []}
use Rattle.std.proofs.Common.{◌∷◌, length, take, get_or, refl, arith}
use Rattle.std.proofs.lemmas.Bool.{cases_eq, eq-eqb, ne_eqb}
use Rattle.std.specs.Prelude.{◌==◌}
use Rattle.std.specs.Str.{bytes_eq}

-- how far two lists of bytes are apart, byte by byte
abbrev pub distance : List ℕ → List ℕ → ℕ
distance [] ys = 0
distance (x ∷ xs) [] = 0
distance (x ∷ xs) (y ∷ ys) = (x - y) + (y - x) + distance xs ys

-- one byte more of both
pub distance-next : (xs ys : List ℕ) (n : ℕ) → n < length xs → length xs ≡ length ys
    → distance (take (suc n) xs) (take (suc n) ys) ≡ distance (take n xs) (take n ys) + ((get_or xs n 0 - get_or ys n 0) + (get_or ys n 0 - get_or xs n 0))
distance-next [] ys n within same = absurd (omega (arith, within))
distance-next (x ∷ xs) [] n within same = absurd (omega (arith, same))
distance-next (x ∷ xs) (y ∷ ys) zero within same = omega arith
distance-next (x ∷ xs) (y ∷ ys) (suc n) within same =
    omega (arith, distance-next xs ys n (omega (arith, within)) (omega (arith, same)))

-- they are the same where they aren't apart
pub distance-bytes_eq : (xs ys : List ℕ) → length xs ≡ length ys → (distance xs ys == 0) ≡ bytes_eq xs ys
distance-bytes_eq [] [] same = refl
distance-bytes_eq [] (y ∷ ys) same = absurd (omega (arith, same))
distance-bytes_eq (x ∷ xs) [] same = absurd (omega (arith, same))
distance-bytes_eq (x ∷ xs) (y ∷ ys) same =
    both x y (distance xs ys) (bytes_eq xs ys) (distance-bytes_eq xs ys (omega (arith, same)))
  where
    both : (x y more : ℕ) (b : Bool) → (more == 0) ≡ b → ((x - y) + (y - x) + more == 0) ≡ ((x == y) && b)
    both x y more b e =
        elim (cases_eq x y) [
          | inl here ↦
              let sum : (x - y) + (y - x) + more ≡ more = omega (arith, here) in
              rw (eq-eqb x y here, sum) e
          | inr apart ↦
              let some : (x - y) + (y - x) + more ≢ 0 = λ none. apart (omega (arith, none)) in
              rw (ne_eqb x y apart, ne_eqb ((x - y) + (y - x) + more) 0 some) refl
        ]
