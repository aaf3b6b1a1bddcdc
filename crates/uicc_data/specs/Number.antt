-- Bytes as an unsigned number.
use Rattle.std.specs.Prelude.{ℕ, zero, suc, ◌+◌, ◌*◌, ◌/◌, ◌%◌, ◌^◌, nat_lt, if◌then◌else◌, List}
use Rattle.std.specs.Prelude.{[], ◌∷◌, length, Option, Some, None}

-- the number that bytes spell, the highest first
abbrev pub number_spelled : List ℕ → ℕ
number_spelled [] = 0
number_spelled (b ∷ bytes) = b * 256 ^ length bytes + number_spelled bytes

-- a number that so many bytes can spell in them, the highest first
abbrev pub spelled_in : ℕ → ℕ → List ℕ
spelled_in zero n = []
spelled_in (suc k) n = n / 256 ^ k ∷ spelled_in k (n % 256 ^ k)

-- the sum of two numbers in as many bytes as the first has, where it fits
abbrev pub sum_of : List ℕ → List ℕ → Option (List ℕ)
sum_of number addend =
    let sum = number_spelled number + number_spelled addend in
    if nat_lt sum (256 ^ length number) then Some (spelled_in (length number) sum) else None
