use Rattle.std.proofs.Common.{◌≡◌, ◌≢◌, ℕ, zero, suc, ◌<◌, List, ◌∷◌, [], ◌++◌, map, length, Option}
use Rattle.std.proofs.Common.{Some, Result, Ok, Err, OnOk, Contains, get_or, set, refl, sym, ◌∙◌}
use Rattle.std.proofs.Common.{ap, arith}
use Rattle.std.specs.Prelude.{slice_get, unwrap_or}
use Rattle.std.specs.Option.{option_map}
use Rattle.std.proofs.lemmas.Option.{get_or_from_slice_get, slice_get-map, slice_get_within}
use Rattle.std.proofs.lemmas.Option.{unwrap_or-slice_get}
use Rattle.file_rows.proofs.ListLemmas.{contains_first, contains_later}
use Rattle.std.proofs.lemmas.List.{get_or-set_same, length-map, map-set}

module _ {X Y : Type 0} where
  -- a write that f doesn't see
  pub map_set_same : (f : X → Y) (xs : List X) (i : ℕ) (x x' : X) → x ≡ get_or xs i x → f x' ≡ f x → map f (set xs i x') ≡ map f xs
  map_set_same f [] i x x' at same = refl
  map_set_same f (y ∷ ys) zero x x' at same = ap (λ z. z ∷ map f ys) (same ∙ ap f at)
  map_set_same f (y ∷ ys) (suc i) x x' at same = ap (λ zs. f y ∷ zs) (map_set_same f ys i x x' at same)

  -- what f sees of an element
  pub map_at : (f : X → Y) (xs : List X) (i : ℕ) (x : X) (d : Y) → i < length xs → x ≡ get_or xs i x → get_or (map f xs) i d ≡ f x
  map_at f [] i x d within at = absurd (omega arith)
  map_at f (y ∷ ys) zero x d within at = ap f (sym at)
  map_at f (y ∷ ys) (suc i) x d within at = map_at f ys i x d (omega (arith, within)) at

  -- and of what was written
  pub map_at_set : (f : X → Y) (xs : List X) (i : ℕ) (x' : X) (d : Y) → i < length xs → get_or (map f (set xs i x')) i d ≡ f x'
  map_at_set f xs i x' d within =
      ap (λ (ys : List Y). get_or ys i d) (map-set f xs i x') ∙ get_or-set_same (map f xs) i (f x') d (omega (arith, length-map xs f))

module _ {X : Type 0} where
  pub get-set_same : (xs : List X) (i : ℕ) (x : X) → i < length xs → slice_get (set xs i x) i ≡ Some x
  get-set_same [] i x within = absurd (omega arith)
  get-set_same (y ∷ ys) zero x within = refl
  get-set_same (y ∷ ys) (suc i) x within = get-set_same ys i x (omega (arith, within))

  pub get-set_other : (xs : List X) (i : ℕ) (x : X) (n : ℕ) → n ≢ i → slice_get (set xs i x) n ≡ slice_get xs n
  get-set_other [] i x n apart = refl
  get-set_other (y ∷ ys) zero x zero apart = absurd (apart refl)
  get-set_other (y ∷ ys) zero x (suc n) apart = refl
  get-set_other (y ∷ ys) (suc i) x zero apart = refl
  get-set_other (y ∷ ys) (suc i) x (suc n) apart = get-set_other ys i x n (λ e. apart (ap suc e))

  pub get-push_same : (xs : List X) (x : X) → slice_get (xs ++ x ∷ []) (length xs) ≡ Some x
  get-push_same [] x = refl
  get-push_same (y ∷ ys) x = get-push_same ys x

  pub get-push_other : (xs : List X) (x : X) (n : ℕ) → n ≢ length xs → slice_get (xs ++ x ∷ []) n ≡ slice_get xs n
  get-push_other [] x zero apart = absurd (apart refl)
  get-push_other [] x (suc n) apart = refl
  get-push_other (y ∷ ys) x zero apart = refl
  get-push_other (y ∷ ys) x (suc n) apart = get-push_other ys x n (λ e. apart (ap suc e))

  -- a place that has something is within
  pub some_within : (xs : List X) (i : ℕ) → i < length xs → (x : X) × (slice_get xs i ≡ Some x)
  some_within [] i within = absurd (omega (arith, within))
  some_within (y ∷ ys) zero within = (y, refl)
  some_within (y ∷ ys) (suc i) within = some_within ys i (omega (arith, within))

  pub within_same : (xs ys : List X) (i : ℕ) → slice_get xs i ≡ slice_get ys i → i < length ys → i < length xs
  within_same xs ys i same within =
      let there = some_within ys i within in
      slice_get_within xs i there.0 (same ∙ there.1)

module _ {X Y : Type 0} where
  -- what f sees of equal places
  pub map_get : (f : X → Y) (d : Y) (xs ys : List X) (i : ℕ) → slice_get xs i ≡ slice_get ys i → get_or (map f xs) i d ≡ get_or (map f ys) i d
  map_get f d xs ys i same =
      sym (unwrap_or-slice_get (map f xs) i d)
      ∙ ap (λ (o : Option Y). unwrap_or o d) (slice_get-map f xs i ∙ ap (option_map f) same ∙ sym (slice_get-map f ys i))
      ∙ unwrap_or-slice_get (map f ys) i d

  pub map_get_some : (f : X → Y) (d : Y) (xs : List X) (i : ℕ) (x : X) → slice_get xs i ≡ Some x → get_or (map f xs) i d ≡ f x
  map_get_some f d xs i x at = get_or_from_slice_get (map f xs) i (f x) d (slice_get-map f xs i ∙ ap (option_map f) at)

  -- two functions that agree on the elements
  pub map_same_on : (f g : X → Y) (xs : List X) → ((x : X) → Contains xs x → f x ≡ g x) → map f xs ≡ map g xs
  map_same_on f g [] same = refl
  map_same_on f g (x ∷ xs) same =
      let rest : map f xs ≡ map g xs = map_same_on f g xs (λ y there. same y (contains_later x xs y there)) in
      ap (λ y. y ∷ map f xs) (same x (contains_first x xs)) ∙ ap (λ ys. g x ∷ ys) rest

-- what follows for an `Ok`
pub OnOk-then : {A E : Type 0} (r : Result A E) {P Q : Type 0} → (P → Q) → OnOk r P → OnOk r Q
OnOk-then (Ok x) f p = f p
OnOk-then (Err e) f p = p
