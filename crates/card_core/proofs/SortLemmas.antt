-- Lists brought in order by exchanges of neighbours.
use Rattle.std.proofs.Common.{◌≡◌, ◌⊎◌, ◌<◌, ◌≤◌, Bool, true, false, cond, nat_eq, nat_lt, List}
use Rattle.std.proofs.Common.{[], ◌∷◌, ◌++◌, flat_map, refl, sym, ◌∙◌, ap, arith}
use Rattle.std.proofs.Common.{inl, inr, eqb-true, append_assoc}
use Rattle.std.proofs.lemmas.Bool.{eqb-false, ltb-true, ltb-false}
use Rattle.std.specs.List.{AllByRecursion}
use Rattle.plain_lists.specs.EachTwo.{EachTwo}
use Rattle.card_core.proofs.RankLemmas.{AtMost, Rank, each_weaker}

-- whether an item has to stand before another
abbrev pub is_before : {X : Type 0} → List (Rank X) → X → X → Bool
is_before [] x y = false
is_before (rank ∷ ranks) x y =
    cond (nat_lt (rank.of x) (rank.of y)) true
    (cond (nat_eq (rank.of x) (rank.of y)) (is_before ranks x y) false)

-- an item takes its place among others
abbrev pub put : {X : Type 0} → List (Rank X) → X → List X → List X
put ranks x [] = x ∷ []
put ranks x (y ∷ ys) = cond (is_before ranks y x) (y ∷ put ranks x ys) (x ∷ y ∷ ys)

abbrev pub in_order : {X : Type 0} → List (Rank X) → List X → List X
in_order ranks [] = []
in_order ranks (x ∷ xs) = put ranks x (in_order ranks xs)

before_is : {X : Type 0} (ranks : List (Rank X)) (x y : X) → is_before ranks x y ≡ true
    → AtMost ranks x y
before_is [] x y is = tt
before_is (rank ∷ ranks) x y is =
    by (nat_lt (rank.of x) (rank.of y)) (nat_eq (rank.of x) (rank.of y)) refl refl
    (before_is ranks x y) is
  where
    by : (less same : Bool) → nat_lt (rank.of x) (rank.of y) ≡ less
        → nat_eq (rank.of x) (rank.of y) ≡ same
        → (is_before ranks x y ≡ true → AtMost ranks x y)
        → cond less true (cond same (is_before ranks x y) false) ≡ true
        → AtMost (rank ∷ ranks) x y
    by true same is its rest before = inl (ltb-true (rank.of x) (rank.of y) is)
    by false true is its rest before =
        inr (eqb-true (rank.of x) (rank.of y) its, rest before)
    by false false is its rest before = absurd cc

not_before_is : {X : Type 0} (ranks : List (Rank X)) (x y : X) → is_before ranks x y ≡ false
    → AtMost ranks y x
not_before_is [] x y is = tt
not_before_is (rank ∷ ranks) x y is =
    by (nat_lt (rank.of x) (rank.of y)) (nat_eq (rank.of x) (rank.of y)) refl refl
    (not_before_is ranks x y) is
  where
    by : (less same : Bool) → nat_lt (rank.of x) (rank.of y) ≡ less
        → nat_eq (rank.of x) (rank.of y) ≡ same
        → (is_before ranks x y ≡ false → AtMost ranks y x)
        → cond less true (cond same (is_before ranks x y) false) ≡ false
        → AtMost (rank ∷ ranks) y x
    by true same is its rest before = absurd cc
    by false true is its rest before =
        inr (sym (eqb-true (rank.of x) (rank.of y) its), rest before)
    by false false is its rest before =
        let most : rank.of y ≤ rank.of x = ltb-false (rank.of x) (rank.of y) is in
        let apart : rank.of x ≡ rank.of y → ⊥ = eqb-false (rank.of x) (rank.of y) its in
        inl (omega (arith, most, apart))

-- an item stands before another
abbrev pub IsLess : {X : Type 0} → List (Rank X) → X → X → Type 0
IsLess [] x y = ⊥
IsLess (rank ∷ ranks) x y =
    (rank.of x < rank.of y) ⊎ ((rank.of x ≡ rank.of y) × IsLess ranks x y)

pub before_less : {X : Type 0} (ranks : List (Rank X)) (x y : X) → is_before ranks x y ≡ true
    → IsLess ranks x y
before_less [] x y is = absurd cc
before_less (rank ∷ ranks) x y is =
    by (nat_lt (rank.of x) (rank.of y)) (nat_eq (rank.of x) (rank.of y)) refl refl
    (before_less ranks x y) is
  where
    by : (less same : Bool) → nat_lt (rank.of x) (rank.of y) ≡ less
        → nat_eq (rank.of x) (rank.of y) ≡ same
        → (is_before ranks x y ≡ true → IsLess ranks x y)
        → cond less true (cond same (is_before ranks x y) false) ≡ true
        → IsLess (rank ∷ ranks) x y
    by true same is its rest before = inl (ltb-true (rank.of x) (rank.of y) is)
    by false true is its rest before =
        inr (eqb-true (rank.of x) (rank.of y) its, rest before)
    by false false is its rest before = absurd cc

pub most_trans : {X : Type 0} (ranks : List (Rank X)) (x y z : X) → AtMost ranks x y
    → AtMost ranks y z
    → AtMost ranks x z
most_trans [] x y z one other = tt
most_trans (rank ∷ ranks) x y z (inl one) (inl other) = inl (omega (arith, one, other))
most_trans (rank ∷ ranks) x y z (inl one) (inr other) =
    let same = other.0 in inl (omega (arith, one, same))
most_trans (rank ∷ ranks) x y z (inr one) (inl other) =
    let same = one.0 in inl (omega (arith, same, other))
most_trans (rank ∷ ranks) x y z (inr one) (inr other) =
    inr (one.0 ∙ other.0, most_trans ranks x y z one.1 other.1)

module _ {X : Type 0} (ranks : List (Rank X)) where
  -- what holds of each still does
  pub put_each : (P : X → Type 0) (x : X) (ys : List X) → P x → AllByRecursion P ys
      → AllByRecursion P (put ranks x ys)
  put_each P x [] one each = (one, tt)
  put_each P x (y ∷ ys) one each = by (is_before ranks y x) (put_each P x ys one each.1)
    where
      by : (before : Bool) → AllByRecursion P (put ranks x ys)
          → AllByRecursion P (cond before (y ∷ put ranks x ys) (x ∷ y ∷ ys))
      by true rest = (each.0, rest)
      by false rest = (one, each)

  pub order_each : (P : X → Type 0) (xs : List X) → AllByRecursion P xs
      → AllByRecursion P (in_order ranks xs)
  order_each P [] each = tt
  order_each P (x ∷ xs) each =
      put_each P x (in_order ranks xs) each.0 (order_each P xs each.1)

  put_ordered : (x : X) (ys : List X) → EachTwo (AtMost ranks) ys
      → EachTwo (AtMost ranks) (put ranks x ys)
  put_ordered x [] order = (tt, tt)
  put_ordered x (y ∷ ys) order = by (is_before ranks y x) refl (put_ordered x ys order.1)
    where
      by : (before : Bool) → is_before ranks y x ≡ before
          → EachTwo (AtMost ranks) (put ranks x ys)
          → EachTwo (AtMost ranks) (cond before (y ∷ put ranks x ys) (x ∷ y ∷ ys))
      by true is rest =
          (put_each (AtMost ranks y) x ys (before_is ranks y x is) order.0, rest)
      by false is rest =
          let most : AtMost ranks x y = not_before_is ranks y x is in (
            (
              most,
              each_weaker (AtMost ranks y) (AtMost ranks x)
                  (λ z its. most_trans ranks x y z most its) ys order.0,
            ),
            order,
          )

  pub ordered : (xs : List X) → EachTwo (AtMost ranks) (in_order ranks xs)
  ordered [] = tt
  ordered (x ∷ xs) = put_ordered x (in_order ranks xs) (ordered xs)

  -- what neighbours that change places give in either order
  module _ {Y : Type 0} (f : X → List Y) where
    abbrev pub Changes : X → X → Type 0
    Changes x y = is_before ranks y x ≡ true → f x ++ f y ≡ f y ++ f x

    put_gives : (x : X) (ys : List X) → AllByRecursion (Changes x) ys
        → flat_map f (put ranks x ys) ≡ f x ++ flat_map f ys
    put_gives x [] each = refl
    put_gives x (y ∷ ys) each = by (is_before ranks y x) refl (put_gives x ys each.1)
      where
        by : (before : Bool) → is_before ranks y x ≡ before
            → flat_map f (put ranks x ys) ≡ f x ++ flat_map f ys
            → flat_map f (cond before (y ∷ put ranks x ys) (x ∷ y ∷ ys))
            ≡ f x ++ flat_map f (y ∷ ys)
        by true is rest =
            ap (λ (its : List Y). f y ++ its) rest
            ∙ sym (append_assoc (f y) (f x) (flat_map f ys))
            ∙ ap (λ (its : List Y). its ++ flat_map f ys) (sym (each.0 is))
            ∙ append_assoc (f x) (f y) (flat_map f ys)
        by false is rest = refl

    pub order_gives : (xs : List X) → EachTwo Changes xs
        → flat_map f (in_order ranks xs) ≡ flat_map f xs
    order_gives [] each = refl
    order_gives (x ∷ xs) each =
        put_gives x (in_order ranks xs) (order_each (Changes x) xs each.0)
        ∙ ap (λ (its : List Y). f x ++ its) (order_gives xs each.1)
