-- A change of each item by its place.
use Rattle.std.proofs.Common.{◌≡◌, ◌⊎◌, ◌+◌, ℕ, zero, suc, List, [], ◌∷◌, ◌++◌, length, map, arith}
use Rattle.std.proofs.Common.{replicate, Some, refl, ◌∙◌, ap, subst, inl, inr}
use Rattle.std.specs.List.{AllByRecursion}
use Rattle.std.specs.Prelude.{slice_get}
use Rattle.card_core.specs.IsdrCommand.{at_each}

-- a list whose items are those of another, each changed by its place
pub each_is : {X Y : Type 0} (view : X → Y) (change : ℕ → Y → Y) (number : ℕ) (before after : List X)
    → length after ≡ length before
    → ((place : ℕ) (one its : X) → slice_get before place ≡ Some one
    → slice_get after place ≡ Some its → view its ≡ change (number + place) (view one))
    → map view after ≡ at_each change number (map view before)
each_is view change number [] [] same each = refl
each_is view change number [] (its ∷ after) same each = absurd cc
each_is view change number (one ∷ before) [] same each = absurd cc
each_is {X} {Y} view change number (one ∷ before) (its ∷ after) same each =
    let first : view its ≡ change number (view one) =
    each zero one its refl refl ∙ ap (λ (n : ℕ). change n (view one)) (omega arith) in
    let rest : map view after ≡ at_each change (number + 1) (map view before) =
    each_is view change (number + 1) before after (cc) (λ place other it at there.
    let next : number + suc place ≡ (number + 1) + place = omega arith in
    each (suc place) other it at there ∙ ap (λ (n : ℕ). change n (view other)) next) in
    ap (λ (y : Y). y ∷ map view after) first
    ∙ ap (λ (ys : List Y). change number (view one) ∷ ys) rest

-- what a list has that got one more item at its end
pub push_cases : {X : Type 0} (xs : List X) (place : ℕ) (put its : X)
    → slice_get (xs ++ put ∷ []) place ≡ Some its
    → ((place ≡ length xs) × (put ≡ its)) ⊎ (slice_get xs place ≡ Some its)
push_cases [] zero put its there = inl (refl, cc)
push_cases [] (suc place) put its there = absurd cc
push_cases (x ∷ xs) zero put its there = inr there
push_cases (x ∷ xs) (suc place) put its there =
    elim (push_cases xs place put its there) [
      | inl same ↦ inl (ap suc same.0, same.1)
      | inr found ↦ inr found
    ]

-- a list whose items are all seen alike
pub all_alike : {X Y : Type 0} (view : X → Y) (y : Y) (xs : List X)
    → ((place : ℕ) (its : X) → slice_get xs place ≡ Some its → view its ≡ y)
    → map view xs ≡ replicate (length xs) y
all_alike view y [] each = refl
all_alike {X} {Y} view y (x ∷ xs) each =
    ap (λ (first : Y). first ∷ map view xs) (each zero x refl)
    ∙ ap (λ (ys : List Y). y ∷ ys)
    (all_alike view y xs (λ place its there. each (suc place) its there))

-- an item of a list has what each of its items has
pub all_there : {X : Type 0} (P : X → Type 0) (xs : List X) (place : ℕ) (x : X)
    → AllByRecursion P xs → slice_get xs place ≡ Some x → P x
all_there P [] place x all there = absurd cc
all_there P (first ∷ xs) zero x all there = let same : first ≡ x = cc in subst P same all.0
all_there P (first ∷ xs) (suc place) x all there = all_there P xs place x all.1 there

-- another list of the same length has an item at each place
pub also_there : {X Y : Type 0} (xs : List X) (ys : List Y) (place : ℕ) (y : Y)
    → length ys ≡ length xs → slice_get ys place ≡ Some y
    → (x : X) × (slice_get xs place ≡ Some x)
also_there [] [] place y same there = absurd cc
also_there [] (first ∷ ys) place y same there = absurd cc
also_there (x ∷ xs) [] place y same there = absurd cc
also_there (x ∷ xs) (first ∷ ys) zero y same there = (x, refl)
also_there (x ∷ xs) (first ∷ ys) (suc place) y same there = also_there xs ys place y (cc) there
