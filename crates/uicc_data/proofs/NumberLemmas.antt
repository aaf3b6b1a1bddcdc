use Rattle.std.proofs.Common.{◌≡◌, ◌≤◌, ◌<◌, ◌+◌, ◌-◌, ◌*◌, ◌/◌, ◌%◌, ◌^◌, ℕ, zero, suc, true, List}
use Rattle.std.proofs.Common.{[], ◌∷◌, length, length-drop, add-one, drop, get_or, set, refl, ap}
use Rattle.std.proofs.Common.{inl, inr, Some, arith}
use Rattle.std.proofs.Math.Nat.{mul-le-mul_right, pow-succ'}
use Rattle.std.proofs.lemmas.Bool.{cases_eq, cases_lt}
use Rattle.std.proofs.lemmas.Bool.Decides.{nat_tests}
use Rattle.std.proofs.lemmas.List.{drop-set, get_or-set_other, get_or-set_same, set_past}
use Rattle.std.proofs.lemmas.Nat.{div-mul-add, mod-mul-add}
use Rattle.std.specs.Prelude.{nat_lt}
use Rattle.uicc_data.specs.Number.{spelled_in, sum_of, number_spelled}

-- one byte of a sum with its carry
added : (d x y c more p was first second : ℕ) → d + 256 * more ≡ x + y + c → was + c * p ≡ first + second
    → d * p + was + more * (256 * p) ≡ x * p + first + (y * p + second)
added d x y c more p was first second digits before =
    let each : (d + 256 * more) * p ≡ (x + y + c) * p = ap (λ (n : ℕ). n * p) digits in
    grind (arith, each, before)

-- a byte set at a place counted from the lowest
set_lowest : (sum : List ℕ) (len place d : ℕ) → length sum ≡ len → place < len
    → number_spelled (drop (len - (place + 1)) (set sum (len - 1 - place) d)) ≡ d * 256 ^ place + number_spelled (drop (len - place) sum)
set_lowest sum len place d long below =
    let at : len - (place + 1) ≡ len - 1 - place = omega arith in
    let next : len - 1 - place + 1 ≡ len - place = omega (arith, below) in
    let inside : len - 1 - place < length sum = omega (arith, below, long) in
    let rest : length (drop (len - place) sum) ≡ place = omega (arith, length-drop (len - place) sum, long, below) in
    rw (at, drop-set sum (len - 1 - place) d inside, next, rest) refl

-- the next bytes are added
pub sum_more : (sum number addend : List ℕ) (place carry x y : ℕ) → length sum ≡ length number → place < length number
    → number_spelled (drop (length number - (place + 1)) number) ≡ x * 256 ^ place + number_spelled (drop (length number - place) number)
    → number_spelled (drop (length addend - (place + 1)) addend) ≡ y * 256 ^ place + number_spelled (drop (length addend - place) addend)
    → number_spelled (drop (length number - place) sum) + carry * 256 ^ place
    ≡ number_spelled (drop (length number - place) number) + number_spelled (drop (length addend - place) addend)
    → number_spelled (drop (length number - (place + 1)) (set sum (length number - 1 - place) ((x + y + carry) % 256))) + (x + y + carry) / 256 * 256 ^ (place + 1)
    ≡ number_spelled (drop (length number - (place + 1)) number) + number_spelled (drop (length addend - (place + 1)) addend)
sum_more sum number addend place carry x y long below first second before =
    let digits : (x + y + carry) % 256 + 256 * ((x + y + carry) / 256) ≡ x + y + carry = omega arith in
    let power : 256 ^ (place + 1) ≡ 256 * 256 ^ place = rw add-one (pow-succ' 256 place) in
    rw (set_lowest sum (length number) place ((x + y + carry) % 256) long below, power, first, second)
    (added ((x + y + carry) % 256) x y carry ((x + y + carry) / 256) (256 ^ place) (number_spelled (drop (length number - place) sum))
    (number_spelled (drop (length number - place) number)) (number_spelled (drop (length addend - place) addend)) digits before)

-- bytes stay below 256
pub each_set : (xs : List ℕ) (j d : ℕ) → ((i : ℕ) → get_or xs i 0 < 256) → d < 256 → (i : ℕ) → get_or (set xs j d) i 0 < 256
each_set xs j d each below i =
    elim (cases_eq i j) [
      | inl e ↦ elim (cases_lt j (length xs)) [
        | inl inside ↦ rw (e, get_or-set_same xs j d 0 inside) below
        | inr past ↦ rw (e, set_past xs j d past) (each j)
      ]
      | inr apart ↦ rw (get_or-set_other xs j i d 0 apart) (each i)
    ]

-- bytes below 256 spell a number that fits them, and are those of it
value_below : (bytes : List ℕ) → ((i : ℕ) → get_or bytes i 0 < 256) → number_spelled bytes < 256 ^ length bytes
value_below [] each = omega arith
value_below (b ∷ bytes) each =
    let rest : number_spelled bytes < 256 ^ length bytes = value_below bytes (λ i. each (suc i)) in
    let first : b < 256 = each 0 in
    let most : b ≤ 255 = omega (arith, first) in
    let wide : b * 256 ^ length bytes ≤ 255 * 256 ^ length bytes = mul-le-mul_right {m = b} {n = 255} (256 ^ length bytes) most in
    rw (pow-succ' 256 (length bytes)) (omega (arith, rest, wide))

bytes_of_value : (bytes : List ℕ) → ((i : ℕ) → get_or bytes i 0 < 256) → spelled_in (length bytes) (number_spelled bytes) ≡ bytes
bytes_of_value [] each = refl
bytes_of_value (b ∷ bytes) each =
    let below : number_spelled bytes < 256 ^ length bytes = value_below bytes (λ i. each (suc i)) in
    rw (div-mul-add b (256 ^ length bytes) (number_spelled bytes) below, mod-mul-add b (256 ^ length bytes) (number_spelled bytes) below)
    (ap (λ (rest : List ℕ). b ∷ rest) (bytes_of_value bytes (λ i. each (suc i))))

-- without a carry at the end they spell the sum
pub sum_done : (sum number addend : List ℕ) (place carry : ℕ) → place ≡ length number → length addend ≤ length number → length sum ≡ length number
    → number_spelled (drop (length number - place) sum) + carry * 256 ^ place
    ≡ number_spelled (drop (length number - place) number) + number_spelled (drop (length addend - place) addend)
    → carry ≡ 0 → ((i : ℕ) → get_or sum i 0 < 256) → Some sum ≡ sum_of number addend
sum_done sum number addend place carry end short long total none each =
    let all : length number - place ≡ 0 = omega (arith, end) in
    let none_left : length addend - place ≡ 0 = omega (arith, end, short) in
    let value : number_spelled sum ≡ number_spelled number + number_spelled addend = omega (arith, rw (none, all, none_left) at total) in
    let below : number_spelled sum < 256 ^ length sum = value_below sum each in
    let fits : nat_lt (number_spelled number + number_spelled addend) (256 ^ length number) ≡ true = rw (← value, ← long) (grind (arith, nat_tests)) in
    let bytes : spelled_in (length number) (number_spelled number + number_spelled addend) ≡ sum = rw (← value, ← long) (bytes_of_value sum each) in
    rw (fits, bytes) refl

pub power_some : (k : ℕ) → 0 < 256 ^ k
power_some zero = omega arith
power_some (suc k) = rw (pow-succ' 256 k) (omega (arith, power_some k))
