use Rattle.std.proofs.Common.{◌≡◌, ℕ, zero, suc, ◌<◌, ◌^◌, Bool, true, false, ◌&&◌, inl, inr, refl}
use Rattle.std.proofs.Common.{sym, ap, subst, arith, Option, Some, None}
use Rattle.std.specs.Prelude.{◌==◌}
use Rattle.std.proofs.lemmas.Bool.{cases_eq, eqb-true, true≢false}
use Rattle.case_table.specs.CaseRows.{value_of}
use Rattle.case_table.specs.declared.tables.TheConstants.{INS_ROWS}
use Rattle.profile_card.specs.Tables.{classes_of}

both : (one other : Bool) → (one && other) ≡ true → (one ≡ true) × (other ≡ true)
both true other e = (refl, e)
both false other e = absurd (true≢false (sym e))

is_same : Option ℕ → Option ℕ → Bool
is_same None None = true
is_same None (Some y) = false
is_same (Some x) None = false
is_same (Some x) (Some y) = x == y

same : (o p : Option ℕ) → is_same o p ≡ true → o ≡ p
unfolding is_same
same None None e = refl
same None (Some y) e = absurd (true≢false (sym e))
same (Some x) None e = absurd (true≢false (sym e))
same (Some x) (Some y) e = ap (λ (n : ℕ). Some n) (eqb-true x y e)

-- a test of each number below one
all_below : (ℕ → Bool) → ℕ → Bool
all_below test zero = true
all_below test (suc n) = test n && all_below test n

one_below : (test : ℕ → Bool) (n k : ℕ) → all_below test n ≡ true → k < n → test k ≡ true
unfolding all_below
one_below test zero k e below = absurd (omega (arith, below))
one_below test (suc n) k e below =
    let met = both (test n) (all_below test n) e in
    elim (cases_eq k n) [
      | inl here ↦ subst (λ (m : ℕ). test m ≡ true) (sym here) met.0
      | inr apart ↦ one_below test n k met.1 (omega (arith, below, apart))
    ]

abbrev agrees : ℕ → Bool
agrees ins = is_same (value_of INS_ROWS ins) (classes_of ins)

all_agree : all_below agrees 256 ≡ true
unfolding all_below is_same
all_agree = refl

-- the table of instructions has for each byte the classes that fit it
pub the_same_classes : (ins : ℕ) → ins < 2 ^ 8 → value_of INS_ROWS ins ≡ classes_of ins
the_same_classes ins below = same _ _ (one_below agrees 256 ins all_agree (omega (arith, below)))
