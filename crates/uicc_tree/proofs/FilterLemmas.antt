use Rattle.std.proofs.Common.{◌≡◌, Bool, true, false, cond, ◌&&◌, List, ◌∷◌, [], ◌++◌, map, filter}
use Rattle.std.proofs.Common.{Contains, refl, sym, ◌∙◌, ap, subst}
use Rattle.std.specs.List.Retain.{RetainsInTurn}
use Rattle.file_rows.proofs.ListLemmas.{contains_first, contains_later}

-- what a test that changes nothing keeps
pub filter_from_turns : {X S : Type 0} (R : S → X → Bool → S → X → Type 0) (test : X → Bool) (s : S)
    → ((x : X) (b : Bool) (t : S) (y : X) → R s x b t y → (b ≡ test x) × (y ≡ x) × (t ≡ s))
    → (xs ys : List X) → RetainsInTurn R s xs ys → ys ≡ filter test xs
filter_from_turns R test s says [] ys turns = turns
filter_from_turns {X} {S} R test s says (x ∷ xs) ys turns =
    let says_so = says x turns.0 turns.1 turns.2 turns.3 in
    let rest : turns.4 ≡ filter test xs =
    filter_from_turns R test s says xs turns.4 (subst (λ (t : S). RetainsInTurn R t xs turns.4) says_so.2 turns.5) in
    turns.6
    ∙ ap (λ (b : Bool). cond b (turns.2 ∷ turns.4) turns.4) says_so.0
    ∙ ap (λ (y : X). cond (test x) (y ∷ turns.4) turns.4) says_so.1
    ∙ ap (λ (zs : List X). cond (test x) (x ∷ zs) zs) rest

module _ {X : Type 0} where
  -- two tests that agree on the elements
  pub filter-same : (one other : X → Bool) (xs : List X) → ((x : X) → Contains xs x → one x ≡ other x) → filter one xs ≡ filter other xs
  filter-same one other [] same = refl
  filter-same one other (x ∷ xs) same =
      let rest : filter one xs ≡ filter other xs = filter-same one other xs (λ y there. same y (contains_later x xs y there)) in
      ap (λ (b : Bool). cond b (x ∷ filter one xs) (filter one xs)) (same x (contains_first x xs)) ∙ ap (λ (ys : List X). cond (other x) (x ∷ ys) ys) rest

  pub filter-push : (test : X → Bool) (xs : List X) (x : X) → filter test (xs ++ x ∷ []) ≡ filter test xs ++ filter test (x ∷ [])
  filter-push test [] x = refl
  filter-push test (y ∷ xs) x =
      let rest = filter-push test xs x in
      let step : (b : Bool) → cond b (y ∷ filter test (xs ++ x ∷ [])) (filter test (xs ++ x ∷ [])) ≡ cond b (y ∷ filter test xs) (filter test xs) ++ filter test (x ∷ [])
      = λ b. elim b as (λ b. cond b (y ∷ filter test (xs ++ x ∷ [])) (filter test (xs ++ x ∷ [])) ≡ cond b (y ∷ filter test xs) (filter test xs) ++ filter test (x ∷ [])) [
        | true ↦ ap (λ (ys : List X). y ∷ ys) rest
        | false ↦ rest
      ]
      in step (test y)

  -- a filter that no element passes
  pub filter-nothing : (test : X → Bool) (xs : List X) → ((x : X) → Contains xs x → test x ≡ false) → filter test xs ≡ []
  filter-nothing test [] fails = refl
  filter-nothing test (x ∷ xs) fails = rw (fails x (contains_first x xs)) (filter-nothing test xs (λ y there. fails y (contains_later x xs y there)))

  filter-and : (p q : X → Bool) (x : X) (xs : List X) → cond (q x && p x) (x ∷ filter p (filter q xs)) (filter p (filter q xs)) ≡ filter p (filter q (x ∷ xs))
  filter-and p q x xs =
      let step : (b : Bool) → cond (b && p x) (x ∷ filter p (filter q xs)) (filter p (filter q xs)) ≡ filter p (cond b (x ∷ filter q xs) (filter q xs))
      = λ b. elim b as (λ b. cond (b && p x) (x ∷ filter p (filter q xs)) (filter p (filter q xs)) ≡ filter p (cond b (x ∷ filter q xs) (filter q xs))) [ true ↦ refl | false ↦ refl ]
      in step (q x)

  -- two filters in either order
  pub filter-twice : (p q r s : X → Bool) (xs : List X) → ((x : X) → Contains xs x → (q x && p x) ≡ (s x && r x)) → filter p (filter q xs) ≡ filter r (filter s xs)
  filter-twice p q r s [] same = refl
  filter-twice p q r s (x ∷ xs) same =
      let rest : filter p (filter q xs) ≡ filter r (filter s xs) = filter-twice p q r s xs (λ y there. same y (contains_later x xs y there)) in
      sym (filter-and p q x xs) ∙ ap (λ (b : Bool). cond b (x ∷ filter p (filter q xs)) (filter p (filter q xs))) (same x (contains_first x xs))
      ∙ ap (λ (ys : List X). cond (s x && r x) (x ∷ ys) ys) rest ∙ filter-and r s x xs

module _ {X Y : Type 0} where
  -- a filter of what f sees
  pub map-filter : (f g : X → Y) (p : X → Bool) (q : Y → Bool) (xs : List X)
      → ((x : X) → Contains xs x → p x ≡ q (f x)) → ((x : X) → Contains xs x → p x ≡ true → g x ≡ f x)
      → map g (filter p xs) ≡ filter q (map f xs)
  map-filter f g p q [] tests same = refl
  map-filter f g p q (x ∷ xs) tests same =
      let rest : map g (filter p xs) ≡ filter q (map f xs) =
      map-filter f g p q xs (λ y there. tests y (contains_later x xs y there)) (λ y there. same y (contains_later x xs y there)) in
      let step : (b : Bool) → p x ≡ b → map g (cond b (x ∷ filter p xs) (filter p xs)) ≡ cond (q (f x)) (f x ∷ filter q (map f xs)) (filter q (map f xs))
      = λ b. elim b as (λ b. p x ≡ b → map g (cond b (x ∷ filter p xs) (filter p xs)) ≡ cond (q (f x)) (f x ∷ filter q (map f xs)) (filter q (map f xs))) [
        | true ↦ λ e.
            ap (λ (y : Y). y ∷ map g (filter p xs)) (same x (contains_first x xs) e) ∙ ap (λ (ys : List Y). f x ∷ ys) rest
            ∙ ap (λ (b : Bool). cond b (f x ∷ filter q (map f xs)) (filter q (map f xs))) (sym e ∙ tests x (contains_first x xs))
        | false ↦ λ e. rest ∙ ap (λ (b : Bool). cond b (f x ∷ filter q (map f xs)) (filter q (map f xs))) (sym e ∙ tests x (contains_first x xs))
      ]
      in step (p x) refl
