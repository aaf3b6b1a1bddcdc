use Rattle.std.specs.Prelude.{ℕ, Bool, ◌-◌, ◌==◌, ◌≡◌, ◌≢◌, ◌≤◌, ◌⊎◌, IfSome}
use Rattle.std.specs.Int.{bit_at}
use Rattle.file_rows.specs.Path.{master}
use Rattle.file_rows.specs.declared.pin.PinRow.{PinRow}

-- the key references of the PINs at home in the MF (ETSI TS 102 221, global key references and ADM1
-- to ADM5)
abbrev pub IsGlobalKey : ℕ → Type 0
IsGlobalKey key = ((1 ≤ key) × (key ≤ 8)) ⊎ (((10 ≤ key) × (key ≤ 14)) ⊎ (key ≡ 17))

-- those of the PINs at home in another directory (local key references)
abbrev pub IsLocalKey : ℕ → Type 0
IsLocalKey key = (129 ≤ key) × (key ≤ 136)

-- 1 to 15 tries at most, and no more left
pub record AreTries (most tries : ℕ) : Type 0 where
  pub some : 1 ≤ most
  pub few : most ≤ 15
  pub left : tries ≤ most

pub record IsPin (pin : PinRow) : Type 0 where
  pub smallest : 1 ≤ pin.number
  pub largest : pin.number ≤ 32
  pub key : (IsGlobalKey pin.key × (pin.home ≡ master)) ⊎ (IsLocalKey pin.key × (pin.home ≢ master))
  pub tries : AreTries pin.max pin.left
  pub puk : IfSome pin.puk (λ puk. AreTries puk.max puk.left)

-- two PINs under one key at one home
pub record ShareKey (one other : PinRow) : Type 0 where
  pub home : one.home ≡ other.home
  pub key : one.key ≡ other.key

-- whether the PIN with this number is verified, where bit n - 1 stands for the PIN with number n
abbrev pub is_verified : ℕ → ℕ → Bool
is_verified verified number = bit_at verified (number - 1) == 1
