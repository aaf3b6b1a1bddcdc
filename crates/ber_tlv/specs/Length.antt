-- The length field of a BER-TLV data object (ISO/IEC 7816-4; ETSI TS 102 221): definite, of one to
-- four bytes, and of more bytes than the length needs if the sender likes.
use Rattle.std.specs.Prelude.{◌≡◌, ℕ, ◌+◌, ◌*◌, ◌/◌, ◌%◌, ◌<◌, List, [], ◌∷◌, ◌⊎◌, if◌then◌else◌}
use Rattle.std.specs.Prelude.{nat_lt}

-- one byte up to 7F, or 81, 82 or 83 and one, two or three bytes of the number
abbrev pub SpellsLength : List ℕ → ℕ → Type 0
SpellsLength [] n = ⊥
SpellsLength (a ∷ []) n = (a < 128) × (n ≡ a)
SpellsLength (a ∷ b ∷ []) n = (a ≡ 0x81) × (b < 256) × (n ≡ b)
SpellsLength (a ∷ b ∷ c ∷ []) n = (a ≡ 0x82) × (b < 256) × (c < 256) × (n ≡ b * 256 + c)
SpellsLength (a ∷ b ∷ c ∷ d ∷ []) n =
    (a ≡ 0x83) × (b < 256) × (c < 256) × (d < 256) × (n ≡ (b * 256 + c) * 256 + d)
SpellsLength (a ∷ b ∷ c ∷ d ∷ e ∷ more) n = ⊥

-- the length in as few bytes as it takes
abbrev pub length_bytes : ℕ → List ℕ
length_bytes n =
    if nat_lt n 128 then n ∷ []
    else (if nat_lt n 256 then 0x81 ∷ n ∷ []
    else (if nat_lt n 65536 then 0x82 ∷ n / 256 ∷ n % 256 ∷ []
    else 0x83 ∷ n / 65536 ∷ n / 256 % 256 ∷ n % 256 ∷ []))

-- a first byte that no length has: the indefinite form, or more than three bytes after the first
abbrev pub IsBadLength : ℕ → Type 0
IsBadLength first = (first ≡ 0x80) ⊎ (0x83 < first)
