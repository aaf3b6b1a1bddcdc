use Rattle.std.proofs.Common.{◌≡◌, ◌≢◌, ℕ, ◌-◌, ◌^◌, ◌<◌, ◌≤◌, Bool, true, false, refl, ◌∙◌, ap}
use Rattle.std.proofs.Common.{arith}
use Rattle.std.proofs.lemmas.Nat.{pow_below}
use Rattle.std.proofs.lemmas.Nat.Bits.{bit_at-lt, bit_at-pow_other, bit_at-pow_same, bit_at_and}
use Rattle.std.proofs.lemmas.Nat.Bits.{bit_at_not, bit_at_or}
use Rattle.std.specs.Int.{bit_at, bit_not, w32}
use Rattle.std.specs.Prelude.{bit_and, bit_or, min}
use Rattle.uicc_channels.specs.Verified.{verified_after}
use Rattle.file_rows.specs.PinRow.{is_verified}

-- 2 to a number below 32 fits 32 bits
pow_fits : (k : ℕ) → k < 32 → 2 ^ k < 2 ^ 32
pow_fits k below = pow_below k 32 below

cleared : (n k i : ℕ) → k < 32 → i < 32 → bit_at (bit_and n (bit_not w32 (2 ^ k))) i ≡ min (bit_at n i) (1 - bit_at (2 ^ k) i)
cleared n k i below within = bit_at_and n (bit_not w32 (2 ^ k)) i ∙ ap (λ (b : ℕ). min (bit_at n i) b) (bit_at_not w32 (2 ^ k) i (pow_fits k below) within)

pub is_verified-with_pin_same : (verified number : ℕ) (now : Bool) → verified < 2 ^ 32 → 1 ≤ number → number ≤ 32
    → is_verified (verified_after verified number now) number ≡ now
is_verified-with_pin_same verified number true fits first last =
    let bit : bit_at (bit_or verified (2 ^ (number - 1))) (number - 1) ≡ 1 =
    rw (bit_at_or verified (2 ^ (number - 1)) (number - 1), bit_at-pow_same (number - 1))
    (omega (arith, bit_at-lt verified (number - 1))) in
    rw bit refl
is_verified-with_pin_same verified number false fits first last =
    let below : number - 1 < 32 = omega arith in
    let bit : bit_at (bit_and verified (bit_not w32 (2 ^ (number - 1)))) (number - 1) ≡ 0 =
    rw (cleared verified (number - 1) (number - 1) below below, bit_at-pow_same (number - 1)) (omega arith) in
    rw bit refl

pub is_verified-with_pin_other : (verified number other : ℕ) (now : Bool) → verified < 2 ^ 32 → 1 ≤ number → number ≤ 32
    → 1 ≤ other → other ≤ 32 → other ≢ number → is_verified (verified_after verified number now) other ≡ is_verified verified other
is_verified-with_pin_other verified number other true fits first last begin end apart =
    let place : other - 1 ≢ number - 1 = λ e. apart (omega (arith, e)) in
    let bit : bit_at (bit_or verified (2 ^ (number - 1))) (other - 1) ≡ bit_at verified (other - 1) =
    rw (bit_at_or verified (2 ^ (number - 1)) (other - 1), bit_at-pow_other (number - 1) (other - 1) place) (omega arith) in
    rw bit refl
is_verified-with_pin_other verified number other false fits first last begin end apart =
    let place : other - 1 ≢ number - 1 = λ e. apart (omega (arith, e)) in
    let below : number - 1 < 32 = omega arith in
    let within : other - 1 < 32 = omega arith in
    let bit : bit_at (bit_and verified (bit_not w32 (2 ^ (number - 1)))) (other - 1) ≡ bit_at verified (other - 1) =
    rw (cleared verified (number - 1) (other - 1) below within, bit_at-pow_other (number - 1) (other - 1) place)
    (omega (arith, bit_at-lt verified (other - 1))) in
    rw bit refl
