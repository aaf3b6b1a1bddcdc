-- Runs in bytes, sums of numbers, and records that are written.
use Rattle.std.proofs.Common.{◌≡◌, ◌≤◌, ◌<◌, ◌+◌, ◌%◌, ◌^◌, ◌⊎◌, ℕ, zero, suc, Bool, true, false}
use Rattle.std.proofs.Common.{cond, ◌||◌, List, [], ◌∷◌, ◌++◌, length, drop, nat_eq, refl, sym, ◌∙◌}
use Rattle.std.proofs.Common.{ap, inl, inr, ⊎_elim, Some, None, arith}
use Rattle.std.proofs.lemmas.Nat.{div-add-mod', mod_below}
use Rattle.std.proofs.lemmas.Bool.Decides.{nat_tests}
use Rattle.std.specs.List.{starts_with}
use Rattle.std.specs.Prelude.{nat_lt}
use Rattle.file_rows.proofs.PathLemmas.{below_is, is_below}
use Rattle.uicc_data.proofs.NumberLemmas.{power_some}
use Rattle.uicc_data.proofs.SearchCarryLemmas.{length-spelled_in}
use Rattle.uicc_data.specs.Number.{spelled_in, sum_of, number_spelled}
use Rattle.uicc_data.specs.Search.{holds_run}

-- bytes that hold others somewhere
abbrev IsAround : List ℕ → List ℕ → Type 0
IsAround run bytes = (before : List ℕ) × (after : List ℕ) × (bytes ≡ before ++ run ++ after)

or_cases : (one other : Bool) → (one || other) ≡ true → (one ≡ true) ⊎ (other ≡ true)
or_cases true other e = inl refl
or_cases false other e = inr e

pub run_is_around : (run bytes : List ℕ) → holds_run run bytes ≡ true → IsAround run bytes
run_is_around run [] e = ([], drop (length run) [], below_is run [] e)
run_is_around run (b ∷ bytes) e =
    ⊎_elim (λ here. ([], drop (length run) (b ∷ bytes), below_is run (b ∷ bytes) here))
    (λ later. let around : IsAround run bytes = run_is_around run bytes later in
    (b ∷ around.0, around.1, ap (λ (rest : List ℕ). b ∷ rest) around.2))
    (or_cases (starts_with nat_eq (b ∷ bytes) run) (holds_run run bytes) e)

here_holds : (run bytes after : List ℕ) → bytes ≡ run ++ after → holds_run run bytes ≡ true
here_holds run [] after e = is_below run [] after e
here_holds run (b ∷ bytes) after e = rw (is_below run (b ∷ bytes) after e) refl

or_later : (one other : Bool) → other ≡ true → (one || other) ≡ true
or_later true other e = refl
or_later false other e = e

pub around_holds : (run before after : List ℕ) → holds_run run (before ++ run ++ after) ≡ true
around_holds run [] after = here_holds run (run ++ after) after refl
around_holds run (b ∷ before) after = or_later (starts_with nat_eq (b ∷ (before ++ run ++ after)) run) (holds_run run (before ++ run ++ after)) (around_holds run before after)

-- a number that fits some bytes is the one that they spell
value_of_bytes : (k n : ℕ) → n < 256 ^ k → number_spelled (spelled_in k n) ≡ n
value_of_bytes zero n fits = omega (arith, fits)
value_of_bytes (suc k) n fits =
    rw (length-spelled_in k (n % 256 ^ k), value_of_bytes k (n % 256 ^ k) (mod_below n (256 ^ k) (power_some k))) (div-add-mod' n (256 ^ k))

-- what a sum is, where there is one
pub sum_is : (number addend sum : List ℕ) → sum_of number addend ≡ Some sum → (length sum ≡ length number) × (number_spelled sum ≡ number_spelled number + number_spelled addend)
sum_is number addend sum e = either (nat_lt (number_spelled number + number_spelled addend) (256 ^ length number)) refl e
  where
    either : (fits : Bool) → nat_lt (number_spelled number + number_spelled addend) (256 ^ length number) ≡ fits
        → cond fits (Some (spelled_in (length number) (number_spelled number + number_spelled addend))) None ≡ Some sum
        → (length sum ≡ length number) × (number_spelled sum ≡ number_spelled number + number_spelled addend)
    either true is f =
        let same : spelled_in (length number) (number_spelled number + number_spelled addend) ≡ sum = cc in
        let below : number_spelled number + number_spelled addend < 256 ^ length number = grind (arith, nat_tests) in (
          ap length (sym same) ∙ length-spelled_in (length number) (number_spelled number + number_spelled addend),
          ap number_spelled (sym same) ∙ value_of_bytes (length number) (number_spelled number + number_spelled addend) below,
        )
    either false is f = absurd (cc)

-- and where there is none
pub sum_isnt : (number addend : List ℕ) → sum_of number addend ≡ None → 256 ^ length number ≤ number_spelled number + number_spelled addend
sum_isnt number addend e = either (nat_lt (number_spelled number + number_spelled addend) (256 ^ length number)) refl e
  where
    either : (fits : Bool) → nat_lt (number_spelled number + number_spelled addend) (256 ^ length number) ≡ fits
        → cond fits (Some (spelled_in (length number) (number_spelled number + number_spelled addend))) None ≡ None
        → 256 ^ length number ≤ number_spelled number + number_spelled addend
    either true is f = absurd (cc)
    either false is f = grind (arith, nat_tests)
