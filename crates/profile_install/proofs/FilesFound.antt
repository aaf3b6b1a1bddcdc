-- What is found among files with one more, and among files of which one has another body.
use Rattle.std.proofs.Common.{◌≡◌, ℕ, zero, suc, ◌+◌, ◌≤◌, Bool, true, false, cond, not, ◌||◌, eqb}
use Rattle.std.proofs.Common.{List, [], ◌∷◌, ◌++◌, length, refl, sym, ◌∙◌, ap, Option, Some, None}
use Rattle.std.proofs.Common.{arith, length-append}
use Rattle.std.specs.Prelude.{find, is_some, nat_lt, position, slice_get, slice_set, IsTrue, ◌↔◌}
use Rattle.std.specs.List.{position_or_len}
use Rattle.std.specs.Option.{option_or}
use Rattle.std.specs.Str.{bytes_eq}
use Rattle.std.proofs.lemmas.Bool.{false_from_ne_true, false≢true, le-ltb, lt-ltb, true≢false}
use Rattle.std.proofs.lemmas.Bool.Decides.{nat_tests}
use Rattle.std.proofs.lemmas.List.{length-set}
use Rattle.std.proofs.lemmas.List.Folds.{find_at, position_or_len-set, position_or_len_push}
use Rattle.std.proofs.lemmas.Option.{get_or_from_slice_get}
use Rattle.std.proofs.lemmas.Slice.Eq.{bytes_eq-Decides}
use Rattle.file_rows.specs.Path.{IsIn, is_in, parent_of}
use Rattle.file_rows.proofs.PathLemmas.{is_in-is, parent_is}

-- a test of the one more
pub found_more : {X : Type 0} (p : X → Bool) (xs : List X) (y : X)
    → is_some (find p (xs ++ y ∷ [])) ≡ (is_some (find p xs) || p y)
found_more {X} p [] y = by (p y)
  where
    by : (b : Bool) → is_some (let o : Option X = cond b (Some y) None in o) ≡ b
    by true = refl
    by false = refl
found_more {X} p (x ∷ xs) y = by (p x) (found_more p xs y)
  where
    by : (b : Bool) → is_some (find p (xs ++ y ∷ [])) ≡ (is_some (find p xs) || p y)
        → is_some (cond b (Some x) (find p (xs ++ y ∷ [])))
        ≡ (is_some (cond b (Some x) (find p xs)) || p y)
    by true rest = refl
    by false rest = rest

-- one that passes just as the one whose place it takes
pub found_set : {X : Type 0} (p : X → Bool) (xs : List X) (i : ℕ) (r s : X)
    → slice_get xs i ≡ Some r → p s ≡ p r → is_some (find p (slice_set xs i s))
    ≡ is_some (find p xs)
found_set p [] i r s at same = absurd (cc)
found_set {X} p (x ∷ xs) zero r s at same =
    let e : x ≡ r = cc in
    by (p s) (p x) (same ∙ ap p (sym e))
  where
    by : (a b : Bool) → a ≡ b
        → is_some (cond a (Some s) (find p xs)) ≡ is_some (cond b (Some x) (find p xs))
    by true true e = refl
    by true false e = absurd (true≢false e)
    by false true e = absurd (false≢true e)
    by false false e = refl
found_set {X} p (x ∷ xs) (suc i) r s at same = by (p x) (found_set p xs i r s at same)
  where
    by : (b : Bool) → is_some (find p (slice_set xs i s)) ≡ is_some (find p xs)
        → is_some (cond b (Some x) (find p (slice_set xs i s)))
        ≡ is_some (cond b (Some x) (find p xs))
    by true rest = refl
    by false rest = rest

place_of_more : (k n : ℕ) (b : Bool) → k ≤ n → (more long : ℕ)
    → more ≡ cond (eqb k n) (n + cond b 0 1) k → long ≡ n + 1
    → cond (nat_lt more long) (Some more) None
    ≡ option_or (cond (nat_lt k n) (Some k) None) (cond b (Some n) None)
place_of_more k n true few more long e l = grind (arith, nat_tests)
place_of_more k n false few more long e l = grind (arith, nat_tests)

few_before : {X : Type 0} (p : X → Bool) (xs : List X) → position_or_len p xs ≤ length xs
few_before p [] = omega arith
few_before {X} p (x ∷ xs) = by (p x) (few_before p xs)
  where
    by : (b : Bool) → position_or_len p xs ≤ length xs
        → cond (not b) (1 + position_or_len p xs) 0 ≤ length (x ∷ xs)
    by true few = omega arith
    by false few = omega arith

-- the place of the first that passes
pub place_more : {X : Type 0} (p : X → Bool) (xs : List X) (y : X)
    → position p (xs ++ y ∷ []) ≡ option_or (position p xs) (cond (p y) (Some (length xs)) None)
place_more p xs y = place_of_more (position_or_len p xs) (length xs) (p y) (few_before p xs)
    (position_or_len p (xs ++ y ∷ [])) (length (xs ++ y ∷ [])) (position_or_len_push p xs y)
    (length-append xs (y ∷ []))

pub place_set : {X : Type 0} (p : X → Bool) (xs : List X) (i : ℕ) (r s : X)
    → slice_get xs i ≡ Some r → p s ≡ p r → position p (slice_set xs i s) ≡ position p xs
place_set {X} p xs i r s at same =
    let stays : position_or_len p (slice_set xs i s) ≡ position_or_len p xs =
    position_or_len-set p xs i s r (same ∙ ap p (sym (get_or_from_slice_get xs i r r at))) in
    ap (λ (n : ℕ). cond (nat_lt (position_or_len p (slice_set xs i s)) n)
    (Some (position_or_len p (slice_set xs i s))) None) (length-set xs i s)
    ∙ ap (λ (k : ℕ). cond (nat_lt k (length xs)) (Some k) None) stays

is_some_at : {X : Type 0} (xs : List X) (k : ℕ) → is_some (slice_get xs k) ≡ nat_lt k (length xs)
is_some_at [] k = sym (le-ltb k 0 (omega arith))
is_some_at (x ∷ xs) zero = sym (lt-ltb 0 (length (x ∷ xs)) (omega arith))
is_some_at (x ∷ xs) (suc k) =
    let e : nat_lt k (length xs) ≡ nat_lt (suc k) (length (x ∷ xs)) = grind (arith, nat_tests) in
    is_some_at xs k ∙ e

is_some_if : {X : Type 0} (b : Bool) (x : X) → is_some (cond b (Some x) None) ≡ b
is_some_if true x = refl
is_some_if false x = refl

-- there is a place just where something is found
pub place_found : {X : Type 0} (p : X → Bool) (xs : List X)
    → is_some (position p xs) ≡ is_some (find p xs)
place_found p xs =
    is_some_if (nat_lt (position_or_len p xs) (length xs)) (position_or_len p xs)
    ∙ sym (is_some_at xs (position_or_len p xs))
    ∙ ap (λ o. is_some o) (sym (find_at p xs))

-- two tests of one fact
same_test : {P : Type 0} (a b : Bool) → (IsTrue a ↔ P) → (IsTrue b ↔ P) → a ≡ b
same_test true true p q = refl
same_test true false p q = absurd (false≢true (q.1 (p.0 refl)))
same_test false true p q = absurd (false≢true (p.1 (q.0 refl)))
same_test false false p q = refl

-- whether a file stands in a directory, by its parent
pub in_parent : (path parent other : List ℕ) → parent_of path ≡ Some parent
    → is_in other path ≡ bytes_eq parent other
in_parent path parent other e = same_test {P = IsIn other path} (is_in other path)
    (bytes_eq parent other) (is_in-is other path) (
      λ same. let is : parent ≡ other = (bytes_eq-Decides parent other).0 same in
          (parent_is other path).0 (e ∙ ap (λ (p : List ℕ). Some p) is),
      λ inside. let is : Some parent ≡ Some other = sym e ∙ (parent_is other path).1 inside in
          (bytes_eq-Decides parent other).1 (cc),
    )

pub in_no_parent : (path other : List ℕ) → parent_of path ≡ None → is_in other path ≡ false
in_no_parent path other e = false_from_ne_true (is_in other path)
    (λ inside. let is : None ≡ Some other =
    sym e ∙ (parent_is other path).1 ((is_in-is other path).0 inside) in cc)
