-- Lists in the order of several numbers of each item, the first number first.
use Rattle.std.proofs.Common.{◌≡◌, ◌⊎◌, ◌<◌, ◌≤◌, ◌+◌, ℕ, zero, suc, Bool, true, false, cond}
use Rattle.std.proofs.Common.{nat_eq}
use Rattle.std.proofs.Common.{List, [], ◌∷◌, ◌++◌, filter, flat_map, map, refl, sym, ◌∙◌, ap, arith}
use Rattle.std.proofs.Common.{inl, inr, eqb-true}
use Rattle.std.proofs.lemmas.Bool.{eq-eqb, eqb-false, ne_eqb}
use Rattle.std.specs.List.{AllByRecursion, range_with_len}
use Rattle.plain_lists.specs.EachTwo.{EachTwo}

-- a number of each item, and how many there may be
pub record Rank (X : Type 0) : Type 0 where
  pub of : X → ℕ
  pub below : ℕ

-- an item stands before another, or may stand beside it
abbrev pub AtMost : {X : Type 0} → List (Rank X) → X → X → Type 0
AtMost [] x y = Unit {0}
AtMost (rank ∷ ranks) x y = (rank.of x < rank.of y) ⊎ ((rank.of x ≡ rank.of y) × AtMost ranks x y)

abbrev pub IsWithin : {X : Type 0} → List (Rank X) → X → Type 0
IsWithin [] x = Unit {0}
IsWithin (rank ∷ ranks) x = (rank.of x < rank.below) × IsWithin ranks x

-- the items of the least numbers first
abbrev pub sieve : {X : Type 0} → List (Rank X) → List X → List X
sieve [] xs = xs
sieve (rank ∷ ranks) xs =
    flat_map (λ n. sieve ranks (filter (λ x. nat_eq (rank.of x) n) xs))
    (range_with_len 0 rank.below)

-- alike functions of a list
pub flat_map_alike : {X Y : Type 0} (f g : X → List Y) → ((x : X) → f x ≡ g x) → (xs : List X)
    → flat_map f xs ≡ flat_map g xs
flat_map_alike f g alike [] = refl
flat_map_alike {X} {Y} f g alike (x ∷ xs) =
    ap (λ (ys : List Y). ys ++ flat_map f xs) (alike x)
    ∙ ap (λ (ys : List Y). g x ++ ys) (flat_map_alike f g alike xs)

-- what holds of each item holds of each that a filter keeps
pub each_filter : {X : Type 0} (P : X → Type 0) (keep : X → Bool) (xs : List X)
    → AllByRecursion P xs → AllByRecursion (λ x. P x × (keep x ≡ true)) (filter keep xs)
each_filter P keep [] each = tt
each_filter P keep (x ∷ xs) each = by (keep x) refl (each_filter P keep xs each.1)
  where
    by : (kept : Bool) → keep x ≡ kept
        → AllByRecursion (λ its. P its × (keep its ≡ true)) (filter keep xs)
        → AllByRecursion (λ its. P its × (keep its ≡ true))
        (cond kept (x ∷ filter keep xs) (filter keep xs))
    by true is rest = ((each.0, is), rest)
    by false is rest = rest

pub each_weaker : {X : Type 0} (P Q : X → Type 0) → ((x : X) → P x → Q x) → (xs : List X)
    → AllByRecursion P xs → AllByRecursion Q xs
each_weaker P Q weaker [] each = tt
each_weaker P Q weaker (x ∷ xs) each = (weaker x each.0, each_weaker P Q weaker xs each.1)

pub each_joined : {X : Type 0} (P : X → Type 0) (xs ys : List X) → AllByRecursion P xs
    → AllByRecursion P ys → AllByRecursion P (xs ++ ys)
each_joined P [] ys one other = other
each_joined P (x ∷ xs) ys one other = (one.0, each_joined P xs ys one.1 other)

module _ {X : Type 0} (key : X → ℕ) where
  abbrev pub of_number : ℕ → List X → List X
  of_number n xs = filter (λ x. nat_eq (key x) n) xs

  -- no item has a number below all of theirs
  none_below : (n : ℕ) (xs : List X) → AllByRecursion (λ x. n < key x) xs → of_number n xs ≡ []
  none_below n [] each = refl
  none_below n (x ∷ xs) each =
      let apart : nat_eq (key x) n ≡ false =
      ne_eqb (key x) n (λ same. omega (arith, same, each.0)) in
      ap (λ (its : Bool). cond its (x ∷ of_number n xs) (of_number n xs)) apart
      ∙ none_below n xs each.1

  -- nothing is added to the items of other numbers
  added_elsewhere : (x : X) (xs : List X) (n : ℕ) → (key x ≡ n → ⊥)
      → of_number n (x ∷ xs) ≡ of_number n xs
  added_elsewhere x xs n apart =
      ap (λ (its : Bool). cond its (x ∷ of_number n xs) (of_number n xs))
      (ne_eqb (key x) n apart)

  added_here : (x : X) (xs : List X) (n : ℕ) → key x ≡ n
      → of_number n (x ∷ xs) ≡ x ∷ of_number n xs
  added_here x xs n same =
      ap (λ (its : Bool). cond its (x ∷ of_number n xs) (of_number n xs)) (eq-eqb (key x) n same)

  added_before : (x : X) (xs : List X) (first count : ℕ) → key x < first
      → flat_map (λ n. of_number n (x ∷ xs)) (range_with_len first count)
      ≡ flat_map (λ n. of_number n xs) (range_with_len first count)
  added_before x xs first zero less = refl
  added_before x xs first (suc count) less =
      ap (λ (its : List X). its ++ flat_map (λ n. of_number n (x ∷ xs))
      (range_with_len (first + 1) count))
      (added_elsewhere x xs first (λ same. omega (arith, same, less)))
      ∙ ap (λ (its : List X). of_number first xs ++ its)
      (added_before x xs (first + 1) count (omega (arith, less)))

  added : (x : X) (xs : List X) (first count : ℕ) → first ≤ key x → key x < first + count
      → AllByRecursion (λ y. key x ≤ key y) xs
      → flat_map (λ n. of_number n (x ∷ xs)) (range_with_len first count)
      ≡ x ∷ flat_map (λ n. of_number n xs) (range_with_len first count)
  added x xs first zero most less each = absurd (omega (arith, most, less))
  added x xs first (suc count) most less each =
      by (nat_eq (key x) first) refl (λ apart. added x xs (first + 1) count
      (omega (arith, most, apart)) (omega (arith, less)) each)
    where
      by : (here : Bool) → nat_eq (key x) first ≡ here
          → ((key x ≡ first → ⊥)
          → flat_map (λ n. of_number n (x ∷ xs)) (range_with_len (first + 1) count)
          ≡ x ∷ flat_map (λ n. of_number n xs) (range_with_len (first + 1) count))
          → flat_map (λ n. of_number n (x ∷ xs)) (range_with_len first (suc count))
          ≡ x ∷ flat_map (λ n. of_number n xs) (range_with_len first (suc count))
      by true is rest =
          let same : key x ≡ first = eqb-true (key x) first is in
          ap (λ (its : List X). its ++ flat_map (λ n. of_number n (x ∷ xs))
          (range_with_len (first + 1) count)) (added_here x xs first same)
          ∙ ap (λ (its : List X). x ∷ of_number first xs ++ its)
          (added_before x xs (first + 1) count (omega (arith, same)))
      by false is rest =
          let apart : key x ≡ first → ⊥ = eqb-false (key x) first is in
          let none : of_number first xs ≡ [] =
          none_below first xs (each_weaker (λ y. key x ≤ key y) (λ y. first < key y)
          (λ y more. omega (arith, more, most, apart)) xs each) in
          ap (λ (its : List X). its ++ flat_map (λ n. of_number n (x ∷ xs))
          (range_with_len (first + 1) count)) (added_elsewhere x xs first apart ∙ none)
          ∙ rest apart
          ∙ ap (λ (its : List X). x ∷ its ++ flat_map (λ n. of_number n xs)
          (range_with_len (first + 1) count)) (sym none)

  -- items in the order of a number, by that number
  pub by_number : (xs : List X) (count : ℕ) → EachTwo (λ x y. key x ≤ key y) xs
      → AllByRecursion (λ x. key x < count) xs
      → flat_map (λ n. of_number n xs) (range_with_len 0 count) ≡ xs
  by_number [] count order within = nothing 0 count
    where
      nothing : (first count : ℕ)
          → flat_map (λ n. of_number n []) (range_with_len first count) ≡ []
      nothing first zero = refl
      nothing first (suc count) = nothing (first + 1) count
  by_number (x ∷ xs) count order within =
      added x xs 0 count (omega arith) (omega (arith, within.0)) order.0
      ∙ ap (λ (its : List X). x ∷ its) (by_number xs count order.1 within.1)

module _ {X : Type 0} (rank : Rank X) (ranks : List (Rank X)) where
  first_number : (x y : X) → AtMost (rank ∷ ranks) x y → rank.of x ≤ rank.of y
  first_number x y (inl less) = omega (arith, less)
  first_number x y (inr same) = let its = same.0 in omega (arith, its)

  pub in_first_order : (xs : List X) → EachTwo (AtMost (rank ∷ ranks)) xs
      → EachTwo (λ x y. rank.of x ≤ rank.of y) xs
  in_first_order [] order = tt
  in_first_order (x ∷ xs) order = (
    each_weaker (AtMost (rank ∷ ranks) x) (λ y. rank.of x ≤ rank.of y) (first_number x) xs order.0,
    in_first_order xs order.1,
  )

  further : (n : ℕ) (x y : X) → rank.of x ≡ n → rank.of y ≡ n → AtMost (rank ∷ ranks) x y
      → AtMost ranks x y
  further n x y is its (inl less) = absurd (omega (arith, is, its, less))
  further n x y is its (inr same) = same.1

  -- those of one number are in the order of the others
  in_further_order : (n : ℕ) (xs : List X) → EachTwo (AtMost (rank ∷ ranks)) xs
      → EachTwo (AtMost ranks) (of_number rank.of n xs)
  in_further_order n [] order = tt
  in_further_order n (x ∷ xs) order =
      by (nat_eq (rank.of x) n) refl (in_further_order n xs order.1)
    where
      by : (here : Bool) → nat_eq (rank.of x) n ≡ here
          → EachTwo (AtMost ranks) (of_number rank.of n xs)
          → EachTwo (AtMost ranks) (cond here (x ∷ of_number rank.of n xs) (of_number rank.of n xs))
      by true is rest = (
        each_weaker (λ y. AtMost (rank ∷ ranks) x y × (nat_eq (rank.of y) n ≡ true))
            (AtMost ranks x)
            (λ y its. further n x y (eqb-true (rank.of x) n is) (eqb-true (rank.of y) n its.1)
            its.0)
            (of_number rank.of n xs)
            (each_filter (AtMost (rank ∷ ranks) x) (λ y. nat_eq (rank.of y) n) xs order.0),
        rest,
      )
      by false is rest = rest

  within_further : (n : ℕ) (xs : List X) → AllByRecursion (IsWithin (rank ∷ ranks)) xs
      → AllByRecursion (IsWithin ranks) (of_number rank.of n xs)
  within_further n xs within =
      each_weaker (λ x. IsWithin (rank ∷ ranks) x × (nat_eq (rank.of x) n ≡ true))
      (IsWithin ranks) (λ x its. its.0.1) (of_number rank.of n xs)
      (each_filter (IsWithin (rank ∷ ranks)) (λ x. nat_eq (rank.of x) n) xs within)

-- a list in that order is its own sieve
pub sieved : {X : Type 0} (ranks : List (Rank X)) (xs : List X) → EachTwo (AtMost ranks) xs
    → AllByRecursion (IsWithin ranks) xs → sieve ranks xs ≡ xs
sieved [] xs order within = refl
sieved (rank ∷ ranks) xs order within =
    flat_map_alike (λ n. sieve ranks (of_number rank.of n xs)) (λ n. of_number rank.of n xs)
    (λ n. sieved ranks (of_number rank.of n xs) (in_further_order rank ranks n xs order)
    (within_further rank ranks n xs within)) (range_with_len 0 rank.below)
    ∙ by_number rank.of xs rank.below (in_first_order rank ranks xs order)
    (each_weaker (IsWithin (rank ∷ ranks)) (λ x. rank.of x < rank.below) (λ x its. its.0) xs within)

-- two lists of which each is so, and each item of the one with each of the other
pub each_two_append : {X : Type 0} (R : X → X → Type 0) (xs ys : List X) → EachTwo R xs
    → EachTwo R ys → AllByRecursion (λ x. AllByRecursion (R x) ys) xs → EachTwo R (xs ++ ys)
each_two_append R [] ys one other across = other
each_two_append R (x ∷ xs) ys one other across = (
  each_joined (R x) xs ys one.0 across.0,
  each_two_append R xs ys one.1 other across.1,
)

-- what holds of each item that the items give
pub each_given : {X Y : Type 0} (P : Y → Type 0) (f : X → List Y) (xs : List X)
    → AllByRecursion (λ x. AllByRecursion P (f x)) xs → AllByRecursion P (flat_map f xs)
each_given P f [] each = tt
each_given P f (x ∷ xs) each =
    each_joined P (f x) (flat_map f xs) each.0 (each_given P f xs each.1)

module _ {X Y : Type 0} (R : Y → Y → Type 0) (S : X → X → Type 0) (Q : X → Y → Type 0)
    (f : X → List Y)
    (two : (x other : X) (y z : Y) → S x other → Q x y → Q other z → R y z) where
  across : (x : X) (xs : List X) → AllByRecursion (S x) xs
      → AllByRecursion (λ other. AllByRecursion (Q other) (f other)) xs → (ys : List Y)
      → AllByRecursion (Q x) ys → AllByRecursion (λ y. AllByRecursion (R y) (flat_map f xs)) ys
  across x xs so gives [] its = tt
  across x xs so gives (y ∷ ys) its = (
    each_given (R y) f xs (by xs so gives),
    across x xs so gives ys its.1,
  )
    where
      by : (others : List X) → AllByRecursion (S x) others
          → AllByRecursion (λ other. AllByRecursion (Q other) (f other)) others
          → AllByRecursion (λ other. AllByRecursion (R y) (f other)) others
      by [] so gives = tt
      by (other ∷ others) so gives = (
        each_weaker (Q other) (R y) (λ z there. two x other y z so.0 its.0 there) (f other) gives.0,
        by others so.1 gives.1,
      )

  -- items in an order give theirs in an order
  pub each_two_given : (xs : List X) → EachTwo S xs
      → AllByRecursion (λ x. AllByRecursion (Q x) (f x)) xs
      → AllByRecursion (λ x. EachTwo R (f x)) xs → EachTwo R (flat_map f xs)
  each_two_given [] so gives each = tt
  each_two_given (x ∷ xs) so gives each =
      each_two_append R (f x) (flat_map f xs) each.0 (each_two_given xs so.1 gives.1 each.1)
      (across x xs so.0 gives.1 (f x) gives.0)

-- what holds of every item holds of those of a list
pub each_is : {X : Type 0} (P : X → Type 0) → ((x : X) → P x) → (xs : List X)
    → AllByRecursion P xs
each_is P holds [] = tt
each_is P holds (x ∷ xs) = (holds x, each_is P holds xs)

module _ {X : Type 0} (P : X → Type 0) where
  both_so : (Q R : X → Type 0) → ((y : X) → P y → Q y → R y) → (ys : List X)
      → AllByRecursion P ys → AllByRecursion Q ys → AllByRecursion R ys
  both_so Q R so [] each its = tt
  both_so Q R so (y ∷ ys) each its = (so y each.0 its.0, both_so Q R so ys each.1 its.1)

  -- two items that are each so
  pub each_two_with : (R S : X → X → Type 0) → ((x y : X) → P x → P y → R x y → S x y)
      → (xs : List X) → AllByRecursion P xs → EachTwo R xs → EachTwo S xs
  each_two_with R S so [] each two = tt
  each_two_with R S so (x ∷ xs) each two = (
    both_so (R x) (S x) (λ y its. so x y each.0 its) xs each.1 two.0,
    each_two_with R S so xs each.1 two.1,
  )

  pub each_two_of : (S : X → X → Type 0) → ((x y : X) → P x → P y → S x y) → (xs : List X)
      → AllByRecursion P xs → EachTwo S xs
  each_two_of S so [] each = tt
  each_two_of S so (x ∷ xs) each =
      (each_weaker P (S x) (λ y. so x y each.0) xs each.1, each_two_of S so xs each.1)

-- two orders of the same items
pub each_two_both : {X : Type 0} (R S : X → X → Type 0) (xs : List X) → EachTwo R xs
    → EachTwo S xs → EachTwo (λ x y. R x y × S x y) xs
each_two_both R S [] one other = tt
each_two_both {X} R S (x ∷ xs) one other =
    (both xs one.0 other.0, each_two_both R S xs one.1 other.1)
  where
    both : (ys : List X) → AllByRecursion (R x) ys → AllByRecursion (S x) ys
        → AllByRecursion (λ y. R x y × S x y) ys
    both [] first second = tt
    both (y ∷ ys) first second = ((first.0, second.0), both ys first.1 second.1)

pub each_both : {X : Type 0} (P Q : X → Type 0) (xs : List X) → AllByRecursion P xs
    → AllByRecursion Q xs → AllByRecursion (λ x. P x × Q x) xs
each_both P Q [] one other = tt
each_both P Q (x ∷ xs) one other = ((one.0, other.0), each_both P Q xs one.1 other.1)

pub map_alike : {X Y : Type 0} (f g : X → Y) → ((x : X) → f x ≡ g x) → (xs : List X)
    → map f xs ≡ map g xs
map_alike f g alike [] = refl
map_alike {X} {Y} f g alike (x ∷ xs) =
    ap (λ (y : Y). y ∷ map f xs) (alike x)
    ∙ ap (λ (ys : List Y). g x ∷ ys) (map_alike f g alike xs)
