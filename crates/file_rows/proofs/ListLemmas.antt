use Rattle.std.proofs.Common.{◌≡◌, ◌⊎◌, ◌↔◌, ℕ, zero, suc, ◌+◌, ◌<◌, ◌≤◌, Bool, true, false, cond}
use Rattle.std.proofs.Common.{List, [], ◌∷◌, ◌++◌, length, drop, map, filter, sum_by, get_or, refl}
use Rattle.std.proofs.Common.{sym, ◌∙◌, ap, subst, inl, inr, ⊎_elim, arith}
use Rattle.std.proofs.lemmas.List.Sums.{sum_by-cons}
use Rattle.std.proofs.lemmas.Bool.{true≢false}
use Rattle.std.specs.List.{Any, AllByRecursion, Contains}
use Rattle.plain_lists.specs.EachTwo.{EachTwo}
use Rattle.file_rows.proofs.EachLemmas.{drop_item, each_weaker}

module _ {X : Type 0} (P : X → Type 0) where
  pub any_first : (x : X) (xs : List X) → P x → Any P (x ∷ xs)
  any_first x xs p = (zero, x, omega arith, refl, p)

  pub any_later : (x : X) (xs : List X) → Any P xs → Any P (x ∷ xs)
  any_later x xs any = (suc any.0, any.1, omega (arith, any.2), any.3, any.4)

  any_at : (x : X) (xs : List X) (k : ℕ) (y : X) → k < length (x ∷ xs) → get_or (x ∷ xs) k y ≡ y → P y → P x ⊎ Any P xs
  any_at x xs zero y within at p = inl (subst P (sym at) p)
  any_at x xs (suc k) y within at p = inr (k, y, omega (arith, within), at, p)

  -- some element is the first one or a later one
  pub any_cases : (x : X) (xs : List X) → Any P (x ∷ xs) → P x ⊎ Any P xs
  any_cases x xs any = any_at x xs any.0 any.1 any.2 any.3 any.4

  pub any_none : Any P [] → ⊥
  any_none any = omega (arith, any.2)

  pub any_left : (xs ys : List X) → Any P xs → Any P (xs ++ ys)
  any_left [] ys any = absurd (any_none any)
  any_left (x ∷ xs) ys any =
      ⊎_elim (λ p. any_first x (xs ++ ys) p) (λ later. any_later x (xs ++ ys) (any_left xs ys later)) (any_cases x xs any)

  pub any_right : (xs ys : List X) → Any P ys → Any P (xs ++ ys)
  any_right [] ys any = any
  any_right (x ∷ xs) ys any = any_later x (xs ++ ys) (any_right xs ys any)

  -- some element of two lists is one of the first or of the second
  pub any_parts : (xs ys : List X) → Any P (xs ++ ys) → Any P xs ⊎ Any P ys
  any_parts [] ys any = inr any
  any_parts (x ∷ xs) ys any = ⊎_elim
      (λ p. inl (any_first x xs p))
      (λ later. ⊎_elim (λ left. inl (any_later x xs left)) (λ right. inr right) (any_parts xs ys later))
      (any_cases x (xs ++ ys) any)

  -- some element that a filter keeps
  pub any_filter : (test : X → Bool) (xs : List X) → ((x : X) → P x → test x ≡ true) → Any P xs → Any P (filter test xs)
  any_filter test [] keeps any = any
  any_filter test (x ∷ xs) keeps any =
      let rest : List X = filter test xs in
      ⊎_elim
      (λ p. subst (λ (b : Bool). Any P (cond b (x ∷ rest) rest)) (sym (keeps x p)) (any_first x rest p))
      (λ later.
      let kept : Any P rest = any_filter test xs keeps later in
      let step : (b : Bool) → Any P (cond b (x ∷ rest) rest)
      = λ b. elim b as (λ b. Any P (cond b (x ∷ rest) rest)) [ true ↦ any_later x rest kept | false ↦ kept ]
      in step (test x))
      (any_cases x xs any)

  pub each_append : (xs ys : List X) → AllByRecursion P xs → AllByRecursion P ys → AllByRecursion P (xs ++ ys)
  each_append [] ys one other = other
  each_append (x ∷ xs) ys one other = (one.0, each_append xs ys one.1 other)

  pub each_left : (xs ys : List X) → AllByRecursion P (xs ++ ys) → AllByRecursion P xs
  each_left [] ys each = tt
  each_left (x ∷ xs) ys each = (each.0, each_left xs ys each.1)

  pub each_right : (xs ys : List X) → AllByRecursion P (xs ++ ys) → AllByRecursion P ys
  each_right [] ys each = each
  each_right (x ∷ xs) ys each = each_right xs ys each.1

  -- another element in the place of one
  pub each_replaced : (xs ys : List X) (x x' : X) → (P x → P x') → AllByRecursion P (xs ++ x ∷ ys) → AllByRecursion P (xs ++ x' ∷ ys)
  each_replaced [] ys x x' gives each = (gives each.0, each.1)
  each_replaced (z ∷ xs) ys x x' gives each = (each.0, each_replaced xs ys x x' gives each.1)

  pub any_replaced : (xs ys : List X) (x x' : X) → (P x → P x') → Any P (xs ++ x ∷ ys) → Any P (xs ++ x' ∷ ys)
  any_replaced xs ys x x' gives any = ⊎_elim
      (λ left. any_left xs (x' ∷ ys) left)
      (λ right. any_right xs (x' ∷ ys)
      (⊎_elim (λ p. any_first x' ys (gives p)) (λ later. any_later x' ys later) (any_cases x ys right)))
      (any_parts xs (x ∷ ys) any)

  pub each_filter : (test : X → Bool) (xs : List X) → AllByRecursion P xs → AllByRecursion P (filter test xs)
  each_filter test [] each = tt
  each_filter test (x ∷ xs) each =
      let rest : List X = filter test xs in
      let kept : AllByRecursion P rest = each_filter test xs each.1 in
      let step : (b : Bool) → AllByRecursion P (cond b (x ∷ rest) rest)
      = λ b. elim b as (λ b. AllByRecursion P (cond b (x ∷ rest) rest)) [ true ↦ (each.0, kept) | false ↦ kept ]
      in step (test x)

-- what some element is, it is in other words
pub any_weaker : {X : Type 0} (P Q : X → Type 0) → ((x : X) → P x → Q x) → (xs : List X) → Any P xs → Any Q xs
any_weaker P Q gives xs any = (any.0, any.1, any.2, any.3, gives any.1 any.4)

-- some element of what f sees
pub any_of_map : {X Y : Type 0} (f : X → Y) (P : Y → Type 0) (xs : List X) → Any (λ x. P (f x)) xs → Any P (map f xs)
any_of_map f P [] any = absurd (any_none (λ x. P (f x)) any)
any_of_map f P (x ∷ xs) any = ⊎_elim
    (λ p. any_first P (f x) (map f xs) p)
    (λ later. any_later P (f x) (map f xs) (any_of_map f P xs later))
    (any_cases (λ x. P (f x)) x xs any)

pub map_of_any : {X Y : Type 0} (f : X → Y) (P : Y → Type 0) (xs : List X) → Any P (map f xs) → Any (λ x. P (f x)) xs
map_of_any f P [] any = absurd (any_none P any)
map_of_any f P (x ∷ xs) any = ⊎_elim
    (λ p. any_first (λ x. P (f x)) x xs p)
    (λ later. any_later (λ x. P (f x)) x xs (map_of_any f P xs later))
    (any_cases P (f x) (map f xs) any)

-- what is said of some element is said of those that are left, while none so far passes
pub any_rest : {X G : Type 0} (P : X → Type 0) (xs : List X) (i : ℕ) (x : X) → i < length xs → x ≡ get_or xs i x
    → (Any P (drop i xs) ↔ G) → (P x → ⊥) → Any P (drop (i + 1) xs) ↔ G
any_rest P xs i x within at left fails = (
  λ rest. left.0 (subst (Any P) (sym (drop_item xs i x within at)) (any_later P x (drop (i + 1) xs) rest)),
  λ all. ⊎_elim (λ p. absurd (fails p)) (λ later. later) (any_cases P x (drop (i + 1) xs) (subst (Any P) (drop_item xs i x within at) (left.1 all))),
)

module _ {X : Type 0} (R : X → X → Type 0) where
  pub two_replaced : (xs ys : List X) (x x' : X) → ((y : X) → R y x → R y x') → ((y : X) → R x y → R x' y)
      → EachTwo R (xs ++ x ∷ ys) → EachTwo R (xs ++ x' ∷ ys)
  two_replaced [] ys x x' before after each = (each_weaker (R x) (R x') after ys each.0, each.1)
  two_replaced (z ∷ xs) ys x x' before after each =
      (each_replaced (R z) xs ys x x' (before z) each.0, two_replaced xs ys x x' before after each.1)

  -- one element more
  pub two_push : (xs : List X) (x : X) → EachTwo R xs → AllByRecursion (λ y. R y x) xs → EachTwo R (xs ++ x ∷ [])
  two_push [] x each last = (tt, tt)
  two_push (y ∷ xs) x each last = (each_append (R y) xs (x ∷ []) each.0 (last.0, tt), two_push xs x each.1 last.1)

  pub two_last : (xs : List X) (x : X) → EachTwo R (xs ++ x ∷ []) → AllByRecursion (λ y. R y x) xs
  two_last [] x each = tt
  two_last (y ∷ xs) x each = ((each_right (R y) xs (x ∷ []) each.0).0, two_last xs x each.1)

  pub two_filter : (test : X → Bool) (xs : List X) → EachTwo R xs → EachTwo R (filter test xs)
  two_filter test [] each = tt
  two_filter test (x ∷ xs) each =
      let rest : List X = filter test xs in
      let kept : EachTwo R rest = two_filter test xs each.1 in
      let step : (b : Bool) → EachTwo R (cond b (x ∷ rest) rest)
      = λ b. elim b as (λ b. EachTwo R (cond b (x ∷ rest) rest)) [ true ↦ (each_filter (R x) test xs each.0, kept) | false ↦ kept ]
      in step (test x)

-- what each element that a filter keeps has
pub each_kept : {X : Type 0} (P Q : X → Type 0) (test : X → Bool) → ((x : X) → P x → test x ≡ true → Q x) → (xs : List X)
    → AllByRecursion P xs → AllByRecursion Q (filter test xs)
each_kept P Q test gives [] each = tt
each_kept P Q test gives (x ∷ xs) each =
    let rest : AllByRecursion Q (filter test xs) = each_kept P Q test gives xs each.1 in
    let step : (b : Bool) → test x ≡ b → AllByRecursion Q (cond b (x ∷ filter test xs) (filter test xs))
    = λ b. elim b as (λ b. test x ≡ b → AllByRecursion Q (cond b (x ∷ filter test xs) (filter test xs))) [
      | true ↦ λ e. (gives x each.0 e, rest)
      | false ↦ λ e. rest
    ]
    in step (test x) refl

-- a filter that keeps nothing
pub filter_none : {X : Type 0} (test : X → Bool) (xs : List X) → ((x : X) → test x ≡ false) → filter test xs ≡ []
filter_none test [] none = refl
filter_none test (x ∷ xs) none = rw (none x) (filter_none test xs none)

pub sum_by-filter : {X : Type 0} (f : X → ℕ) (test : X → Bool) (xs : List X) → sum_by f (filter test xs) ≤ sum_by f xs
sum_by-filter f test [] = omega arith
sum_by-filter f test (x ∷ xs) =
    let rest = sum_by-filter f test xs in
    let step : (b : Bool) → sum_by f (cond b (x ∷ filter test xs) (filter test xs)) ≤ sum_by f (x ∷ xs)
    = λ b. elim b as (λ b. sum_by f (cond b (x ∷ filter test xs) (filter test xs)) ≤ sum_by f (x ∷ xs)) [
      | true ↦ omega (arith, rest, sum_by-cons f x (filter test xs), sum_by-cons f x xs)
      | false ↦ omega (arith, rest, sum_by-cons f x xs)
    ]
    in step (test x)

pub length-filter-le : {X : Type 0} (test : X → Bool) (xs : List X) → length (filter test xs) ≤ length xs
length-filter-le test [] = omega arith
length-filter-le test (x ∷ xs) =
    let rest = length-filter-le test xs in
    let step : (b : Bool) → length (cond b (x ∷ filter test xs) (filter test xs)) ≤ length (x ∷ xs)
    = λ b. elim b as (λ b. length (cond b (x ∷ filter test xs) (filter test xs)) ≤ length (x ∷ xs)) [
      | true ↦ omega (arith, rest)
      | false ↦ omega (arith, rest)
    ]
    in step (test x)

-- what f sees of what a filter keeps
pub map_of_filter : {X Y : Type 0} (f : X → Y) (test : Y → Bool) (xs : List X) → map f (filter (λ x. test (f x)) xs) ≡ filter test (map f xs)
map_of_filter f test [] = refl
map_of_filter {X} {Y} f test (x ∷ xs) =
    let rest = map_of_filter f test xs in
    let step : (b : Bool) → map f (cond b (x ∷ filter (λ x. test (f x)) xs) (filter (λ x. test (f x)) xs)) ≡ cond b (f x ∷ filter test (map f xs)) (filter test (map f xs))
    = λ b. elim b as (λ b. map f (cond b (x ∷ filter (λ x. test (f x)) xs) (filter (λ x. test (f x)) xs)) ≡ cond b (f x ∷ filter test (map f xs)) (filter test (map f xs))) [
      | true ↦ ap (λ (ys : List Y). f x ∷ ys) rest
      | false ↦ rest
    ]
    in step (test (f x))

module _ {X : Type 0} where
  contains_at : (y : X) (ys : List X) (x : X) (k : ℕ) → k < length (y ∷ ys) → get_or (y ∷ ys) k x ≡ x → (y ≡ x) ⊎ Contains ys x
  contains_at y ys x zero within e = inl e
  contains_at y ys x (suc k) within e = inr (k, omega arith, e)

  -- an element is the first one or a later one
  pub contains_cases : (y : X) (ys : List X) (x : X) → Contains (y ∷ ys) x → (y ≡ x) ⊎ Contains ys x
  contains_cases y ys x there = contains_at y ys x there.0 there.1 there.2

  pub contains_later : (y : X) (ys : List X) (x : X) → Contains ys x → Contains (y ∷ ys) x
  contains_later y ys x there = (suc there.0, omega (arith, there.1), there.2)

  pub contains_first : (y : X) (ys : List X) → Contains (y ∷ ys) y
  contains_first y ys = (zero, omega arith, refl)

  pub contains_same : (y : X) (ys : List X) (x : X) → y ≡ x → Contains (y ∷ ys) x
  contains_same y ys x e = subst (λ (z : X). Contains (y ∷ ys) z) e (contains_first y ys)

  -- what a filter keeps
  pub contains-filter : (test : X → Bool) (xs : List X) (x : X) → Contains (filter test xs) x → Contains xs x × (test x ≡ true)
  contains-filter test [] x there = absurd (omega (arith, there.1))
  contains-filter test (y ∷ ys) x there =
      let kept : Bool → List X = λ b. cond b (y ∷ filter test ys) (filter test ys) in
      let step : (b : Bool) → test y ≡ b → Contains (kept b) x → Contains (y ∷ ys) x × (test x ≡ true)
      = λ b. elim b as (λ b. test y ≡ b → Contains (kept b) x → Contains (y ∷ ys) x × (test x ≡ true)) [
        | true ↦ λ e c. ⊎_elim
            (λ same. (contains_same y ys x same, ap test (sym same) ∙ e))
            (λ later. let rest = contains-filter test ys x later in (contains_later y ys x rest.0, rest.1))
            (contains_cases y (filter test ys) x c)
        | false ↦ λ e c. let rest = contains-filter test ys x c in (contains_later y ys x rest.0, rest.1)
      ]
      in step (test y) refl there

  pub filter-contains : (test : X → Bool) (xs : List X) (x : X) → Contains xs x → test x ≡ true → Contains (filter test xs) x
  filter-contains test [] x there passes = there
  filter-contains test (y ∷ ys) x there passes =
      let kept : Bool → List X = λ b. cond b (y ∷ filter test ys) (filter test ys) in
      let step : (b : Bool) → test y ≡ b → Contains (kept b) x
      = λ b. elim b as (λ b. test y ≡ b → Contains (kept b) x) [
        | true ↦ λ e. ⊎_elim
            (λ same. contains_same y (filter test ys) x same)
            (λ later. contains_later y (filter test ys) x (filter-contains test ys x later passes))
            (contains_cases y ys x there)
        | false ↦ λ e. ⊎_elim
            (λ same. absurd (true≢false (sym passes ∙ ap test (sym same) ∙ e)))
            (λ later. filter-contains test ys x later passes)
            (contains_cases y ys x there)
      ]
      in step (test y) refl
