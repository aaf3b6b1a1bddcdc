-- Where the open TLVs end.
use Rattle.std.proofs.Common.{◌≡◌, ℕ, zero, suc, ◌+◌, ◌-◌, ◌<◌, List, [], ◌∷◌, ◌++◌, length, take}
use Rattle.std.proofs.Common.{Option, Some, None, refl, sym, ◌∙◌, ap, arith, length-append}
use Rattle.std.specs.Prelude.{slice_get, ◌↔◌, IsSome}
use Rattle.std.specs.Option.{option_to_list}
use Rattle.std.proofs.lemmas.Option.{slice_get_within}

pub last_is : (ys : List ℕ) (x k : ℕ) → k ≡ length ys → slice_get (ys ++ x ∷ []) k ≡ Some x
last_is [] x zero e = refl
last_is [] x (suc k) e = absurd (omega arith)
last_is (y ∷ ys) x zero e = absurd (omega arith)
last_is (y ∷ ys) x (suc k) e = last_is ys x k (omega arith)

-- nothing is taken only where nothing is there
none_taken : (xs ys : List ℕ) (taken : Option ℕ) (n p : ℕ) → taken ≡ None → xs ≡ ys ++ [] → ys ≡ take (n - 1) xs → (IsSome taken ↔ (0 < n)) → slice_get xs (length xs - 1) ≡ Some p → xs ≡ ys ++ p ∷ []
none_taken xs ys (Some x) n p a e rest some h = absurd (cc)
none_taken xs ys None zero p a e rest some h =
    let k : 0 - 1 ≡ 0 = omega arith in
    let none : ys ≡ [] = rest ∙ ap (λ i. take i xs) k in
    let empty : length xs ≡ length ys + 0 = ap length e ∙ length-append ys [] in
    let no : length ys ≡ 0 = ap length none in
    let l : length xs - 1 < length xs = slice_get_within xs (length xs - 1) p h in
    absurd (omega arith)
none_taken xs ys None (suc n) p a e rest some h = let found = some.1 (omega arith) in absurd (cc)

-- what is taken from the end is what stood last
pub closes : (xs ys : List ℕ) (taken : Option ℕ) (n p : ℕ) → xs ≡ ys ++ option_to_list taken → ys ≡ take (n - 1) xs → (IsSome taken ↔ (0 < n)) → slice_get xs (length xs - 1) ≡ Some p → xs ≡ ys ++ p ∷ []
closes xs ys None n p e rest some h = none_taken xs ys None n p refl e rest some h
closes xs ys (Some x) n p e rest some h =
    let n : length xs ≡ length ys + 1 = ap length e ∙ length-append ys (x ∷ []) in
    let k : length xs - 1 ≡ length ys = omega arith in
    let a : slice_get xs (length xs - 1) ≡ Some x = ap (λ s. slice_get s (length xs - 1)) e ∙ last_is ys x (length xs - 1) k in
    let b : Some x ≡ Some p = sym a ∙ h in
    let c : x ≡ p = cc in
    e ∙ ap (λ q. ys ++ q ∷ []) c
