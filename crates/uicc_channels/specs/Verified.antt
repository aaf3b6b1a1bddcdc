-- The PINs that are verified in a session, as its bits: bit n - 1 stands for the PIN with number n.
use Rattle.std.specs.Prelude.{ℕ, ◌-◌, ◌^◌, Bool, true, false, bit_and, bit_or}
use Rattle.std.specs.Int.{bit_not, w32}

-- the verified PINs with one of them verified, or not
abbrev pub verified_after : ℕ → ℕ → Bool → ℕ
verified_after verified number true = bit_or verified (2 ^ (number - 1))
verified_after verified number false = bit_and verified (bit_not w32 (2 ^ (number - 1)))
