use Rattle.std.proofs.Common.{◌≡◌, ℕ, zero, suc, ◌+◌, ◌-◌, ◌<◌, ◌↔◌, Bool, false, List, [], ◌∷◌}
use Rattle.std.proofs.Common.{length, take, drop, get_or, map, sym, ◌∙◌, ap, subst, arith}
use Rattle.std.proofs.lemmas.Bool.{false≢true}
use Rattle.std.proofs.lemmas.List.{drop_more, length-drop, take_all}
use Rattle.std.specs.Bool.{IsTrue}
use Rattle.std.specs.List.{Any, AllByRecursion}
use Rattle.plain_lists.specs.EachTwo.{EachTwo}

-- what is left of a list at one of its elements
pub drop_item : {X : Type 0} (xs : List X) (i : ℕ) (x : X) → i < length xs → x ≡ get_or xs i x → drop i xs ≡ x ∷ drop (i + 1) xs
drop_item xs i x within at = drop_more xs i x within ∙ ap (λ y. y ∷ drop (i + 1) xs) (sym at)

-- a test says no, and it doesn't hold
pub refused : {P : Type 0} → (P → ⊥) → IsTrue false ↔ P
refused none = (λ e. absurd (false≢true e), λ p. absurd (none p))

-- a test that says no where it can't be
pub fails : {P : Type 0} (r : Bool) → r ≡ false → (P → ⊥) → IsTrue r ↔ P
fails r is none = (λ e. absurd (false≢true (sym is ∙ e)), λ p. absurd (none p))

-- what is said of each element of a list is said of those that are left, while each so far passes
pub each_more : {X G : Type 0} (P : X → Type 0) (xs : List X) (i : ℕ) (x : X) → i < length xs → x ≡ get_or xs i x
    → (AllByRecursion P (drop i xs) ↔ G) → P x → AllByRecursion P (drop (i + 1) xs) ↔ G
each_more P xs i x within at left p = (
  λ rest. left.0 (subst (AllByRecursion P) (sym (drop_item xs i x within at)) (p, rest)),
  λ all. let parts : AllByRecursion P (x ∷ drop (i + 1) xs) = subst (AllByRecursion P) (drop_item xs i x within at) (left.1 all) in parts.1,
)

-- what is said of each two elements of a list is said of those that are left, while each so far passes
module _ {X : Type 0} (R : X → X → Type 0) (xs : List X) (i : ℕ) (x : X) (within : i < length xs) (at : x ≡ get_or xs i x)
    (left : EachTwo R (drop i xs) ↔ EachTwo R xs) where
  pub two_more : AllByRecursion (R x) (drop (i + 1) xs) → EachTwo R (drop (i + 1) xs) ↔ EachTwo R xs
  two_more each = (
    λ rest. left.0 (subst (EachTwo R) (sym (drop_item xs i x within at)) (each, rest)),
    λ all. let parts : EachTwo R (x ∷ drop (i + 1) xs) = subst (EachTwo R) (drop_item xs i x within at) (left.1 all) in parts.1,
  )

  pub two_refused : (AllByRecursion (R x) (drop (i + 1) xs) → ⊥) → IsTrue false ↔ EachTwo R xs
  two_refused fails = refused (λ all. let parts : EachTwo R (x ∷ drop (i + 1) xs) = subst (EachTwo R) (drop_item xs i x within at) (left.1 all) in fails parts.0)

-- some element of a list with one more in front
any_later : {X : Type 0} (P : X → Type 0) (x : X) (xs : List X) → Any P xs → Any P (x ∷ xs)
any_later P x xs any = (suc any.0, any.1, omega (arith, any.2), any.3, any.4)

any_at : {X : Type 0} (P : X → Type 0) (x : X) (xs : List X) → (P x → ⊥) → (k : ℕ) (y : X) → k < length (x ∷ xs) → get_or (x ∷ xs) k y ≡ y → P y → Any P xs
any_at P x xs fails zero y within at p = absurd (fails (subst P (sym at) p))
any_at P x xs fails (suc k) y within at p = (k, y, omega (arith, within), at, p)

-- what is said of some element of a list is said of those that are left, while none so far passes
pub any_more : {X Y G : Type 0} (f : X → Y) (P : Y → Type 0) (xs : List X) (i : ℕ) (x : X) → i < length xs → x ≡ get_or xs i x
    → (Any P (map f (drop i xs)) ↔ G) → (P (f x) → ⊥) → Any P (map f (drop (i + 1) xs)) ↔ G
any_more f P xs i x within at left fails =
    let here : map f (drop i xs) ≡ f x ∷ map f (drop (i + 1) xs) = ap (map f) (drop_item xs i x within at) in (
      λ rest. left.0 (subst (Any P) (sym here) (any_later P (f x) (map f (drop (i + 1) xs)) rest)),
      λ all.
          let any : Any P (f x ∷ map f (drop (i + 1) xs)) = subst (Any P) here (left.1 all) in
          any_at P (f x) (map f (drop (i + 1) xs)) fails any.0 any.1 any.2 any.3 any.4,
    )

-- the rest of a list is all that is left of it
pub take_rest : {X : Type 0} (xs : List X) (i : ℕ) → take (length xs - i) (drop i xs) ≡ drop i xs
take_rest xs i = take_all (length xs - i) (drop i xs) (omega (arith, length-drop i xs))

-- what each element has, in other words
pub each_weaker : {X : Type 0} (P Q : X → Type 0) → ((x : X) → P x → Q x) → (xs : List X) → AllByRecursion P xs → AllByRecursion Q xs
each_weaker P Q gives [] each = tt
each_weaker P Q gives (x ∷ xs) each = (gives x each.0, each_weaker P Q gives xs each.1)

pub each_both : {X : Type 0} (P Q : X → Type 0) (xs : List X) → AllByRecursion P xs → AllByRecursion Q xs → AllByRecursion (λ x. P x × Q x) xs
each_both P Q [] one other = tt
each_both P Q (x ∷ xs) one other = ((one.0, other.0), each_both P Q xs one.1 other.1)

pub each_of_map : {X Y : Type 0} (f : X → Y) (P : Y → Type 0) (xs : List X) → AllByRecursion (λ x. P (f x)) xs ↔ AllByRecursion P (map f xs)
each_of_map f P [] = (λ _. tt, λ _. tt)
each_of_map f P (x ∷ xs) = let rest = each_of_map f P xs in (λ each. (each.0, rest.0 each.1), λ each. (each.0, rest.1 each.1))

-- what each two elements have, in other words
pub two_weaker : {X : Type 0} (R S : X → X → Type 0) → ((x y : X) → R x y → S x y) → (xs : List X) → EachTwo R xs → EachTwo S xs
two_weaker R S gives [] each = tt
two_weaker R S gives (x ∷ xs) each = (each_weaker (R x) (S x) (gives x) xs each.0, two_weaker R S gives xs each.1)

pub two_both : {X : Type 0} (R S : X → X → Type 0) (xs : List X) → EachTwo R xs → EachTwo S xs → EachTwo (λ x y. R x y × S x y) xs
two_both R S [] one other = tt
two_both R S (x ∷ xs) one other = (each_both (R x) (S x) xs one.0 other.0, two_both R S xs one.1 other.1)

pub two_of_map : {X Y : Type 0} (f : X → Y) (R : Y → Y → Type 0) (xs : List X) → EachTwo (λ x y. R (f x) (f y)) xs ↔ EachTwo R (map f xs)
two_of_map f R [] = (λ _. tt, λ _. tt)
two_of_map f R (x ∷ xs) =
    let first = each_of_map f (R (f x)) xs in
    let rest = two_of_map f R xs in
    (λ each. (first.0 each.0, rest.0 each.1), λ each. (first.1 each.0, rest.1 each.1))
