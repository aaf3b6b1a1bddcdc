-- The tag field of a BER-TLV data object (ISO/IEC 7816-4; ETSI TS 102 221): of one to three bytes.
use Rattle.std.specs.Prelude.{◌≡◌, ◌≢◌, ℕ, ◌+◌, ◌*◌, ◌/◌, ◌%◌, ◌<◌, ◌≤◌, List, [], ◌∷◌, ◌⊎◌}
use Rattle.std.specs.Prelude.{if◌then◌else◌, nat_lt}

-- A byte whose low five bits aren't all set stands alone. After one whose low five bits are all
-- set comes a byte below 80, or one from 81 to FF and then one below 80. The tag is these bytes as
-- one number.
abbrev pub SpellsTag : List ℕ → ℕ → Type 0
SpellsTag [] tag = ⊥
SpellsTag (a ∷ []) tag = (a < 256) × (a % 32 ≢ 31) × (tag ≡ a)
SpellsTag (a ∷ b ∷ []) tag = (a < 256) × (a % 32 ≡ 31) × (b < 128) × (tag ≡ a * 256 + b)
SpellsTag (a ∷ b ∷ c ∷ []) tag =
    (a < 256) × (a % 32 ≡ 31) × (128 < b) × (b < 256) × (c < 128) × (tag ≡ (a * 256 + b) * 256 + c)
SpellsTag (a ∷ b ∷ c ∷ d ∷ more) tag = ⊥

-- the bytes of a tag, from its first that isn't 0
abbrev pub tag_bytes : ℕ → List ℕ
tag_bytes tag =
    if nat_lt tag 256 then tag ∷ []
    else (if nat_lt tag 65536 then tag / 256 ∷ tag % 256 ∷ []
    else tag / 65536 ∷ tag / 256 % 256 ∷ tag % 256 ∷ [])

-- a number that is a tag
abbrev pub IsTag : ℕ → Type 0
IsTag tag = SpellsTag (tag_bytes tag) tag

-- The prefix is no tag, however it goes on: its second byte is 80, or its third isn't its last.
abbrev pub HasBadTag : List ℕ → Type 0
HasBadTag [] = ⊥
HasBadTag (a ∷ []) = ⊥
HasBadTag (a ∷ b ∷ []) = (a % 32 ≡ 31) × (b ≡ 128)
HasBadTag (a ∷ b ∷ c ∷ more) = (a % 32 ≡ 31) × ((b ≡ 128) ⊎ ((128 < b) × (128 ≤ c)))
