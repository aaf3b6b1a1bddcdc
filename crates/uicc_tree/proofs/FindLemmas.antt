use Rattle.std.proofs.Common.{◌≡◌, ℕ, ◌+◌, ◌<◌, Bool, true, false, cond, List, ◌∷◌, [], ◌++◌, map}
use Rattle.std.proofs.Common.{filter, length, take, drop, Contains, get_or, refl, sym, ◌∙◌, ap}
use Rattle.std.proofs.Common.{Some, None, find, arith, ⊎_elim}
use Rattle.std.proofs.lemmas.Bool.{true≢false}
use Rattle.std.proofs.lemmas.List.{drop_more, map-append, take_more, take-append-drop}
use Rattle.std.proofs.lemmas.List.Folds.{find-append}
use Rattle.file_rows.proofs.ListLemmas.{contains_cases, contains_first, contains_later}

module _ {X Y : Type 0} where
  -- a search finds what alone passes
  pub find_only : (f : X → Y) (test : Y → Bool) (xs : List X) (x : X) → Contains xs x → test (f x) ≡ true
      → ((y : X) → Contains xs y → test (f y) ≡ true → f y ≡ f x) → find test (map f xs) ≡ Some (f x)
  find_only f test [] x there passes only = absurd (omega (arith, there.1))
  find_only f test (y ∷ ys) x there passes only =
      let later : test (f y) ≡ false → Contains ys x = λ fails. ⊎_elim (λ e. absurd (true≢false (sym passes ∙ (ap (λ z. test (f z)) (sym e) ∙ fails)))) (λ c. c) (contains_cases y ys x there) in
      let step : (b : Bool) → test (f y) ≡ b → cond b (Some (f y)) (find test (map f ys)) ≡ Some (f x)
      = λ b. elim b as (λ b. test (f y) ≡ b → cond b (Some (f y)) (find test (map f ys)) ≡ Some (f x)) [
        | true ↦ λ e. ap Some (only y (contains_first y ys) e)
        | false ↦ λ e. find_only f test ys x (later e) passes (λ z c t. only z (contains_later y ys z c) t)
      ]
      in step (test (f y)) refl

  -- a search finds nothing where nothing passes
  pub find_none : (f : X → Y) (test : Y → Bool) (xs : List X) → ((y : X) → Contains xs y → test (f y) ≡ false) → find test (map f xs) ≡ None
  find_none f test [] fails = refl
  find_none f test (y ∷ ys) fails = rw (fails y (contains_first y ys)) (find_none f test ys (λ z c. fails z (contains_later y ys z c)))

module _ {Y : Type 0} where
  -- a search passes over what fails so far
  pub find_more : (f : ℕ → Y) (test : Y → Bool) (xs : List ℕ) (i : ℕ) → i < length xs → find test (map f (take i xs)) ≡ None
      → test (f (get_or xs i 0)) ≡ false → find test (map f (take (i + 1) xs)) ≡ None
  find_more f test xs i within none fails =
      ap (λ ys. find test (map f ys)) (take_more xs i 0 within) ∙ rw (map-append, find-append, none, fails) refl

  -- and finds the first that passes
  pub find_at : (f : ℕ → Y) (test : Y → Bool) (xs : List ℕ) (i : ℕ) → i < length xs → find test (map f (take i xs)) ≡ None
      → test (f (get_or xs i 0)) ≡ true → find test (map f xs) ≡ Some (f (get_or xs i 0))
  find_at f test xs i within none passes =
      let split : xs ≡ take i xs ++ get_or xs i 0 ∷ drop (i + 1) xs =
      sym (take-append-drop i xs) ∙ ap (λ rest. take i xs ++ rest) (drop_more xs i 0 within) in
      ap (λ ys. find test (map f ys)) split ∙ rw (map-append, find-append, none, passes) refl

module _ {X Y : Type 0} where
  -- a search among what a filter keeps, where all that passes is kept
  pub find-filter : (f : X → Y) (test : Y → Bool) (keep : X → Bool) (xs : List X) → ((x : X) → Contains xs x → test (f x) ≡ true → keep x ≡ true)
      → find test (map f (filter keep xs)) ≡ find test (map f xs)
  find-filter f test keep [] kept = refl
  find-filter f test keep (x ∷ xs) kept =
      let rest = find-filter f test keep xs (λ y there. kept y (contains_later x xs y there)) in
      let step : (b c : Bool) → keep x ≡ b → test (f x) ≡ c → find test (map f (cond b (x ∷ filter keep xs) (filter keep xs))) ≡ cond c (Some (f x)) (find test (map f xs))
      = λ b. elim b as (λ b. (c : Bool) → keep x ≡ b → test (f x) ≡ c → find test (map f (cond b (x ∷ filter keep xs) (filter keep xs))) ≡ cond c (Some (f x)) (find test (map f xs))) [
        | true ↦ λ c on e. ap (λ (b : Bool). cond b (Some (f x)) (find test (map f (filter keep xs)))) e ∙ ap (cond c (Some (f x))) rest
        | false ↦ λ c. elim c as (λ c. keep x ≡ false → test (f x) ≡ c → find test (map f (filter keep xs)) ≡ cond c (Some (f x)) (find test (map f xs))) [
          | true ↦ λ off e. absurd (true≢false (sym (kept x (contains_first x xs) e) ∙ off))
          | false ↦ λ off e. rest
        ]
      ]
      in step (keep x) (test (f x)) refl refl
