-- What the two steps of reading give: the tag, and then the length.
use Rattle.std.specs.Prelude.{◌≡◌, ℕ, ◌≤◌, List, [], ◌∷◌, ◌++◌, length, drop}
use Rattle.ber_tlv.specs.declared.fault.TlvFault.{TlvFault}
use Rattle.ber_tlv.specs.declared.fault.TlvFault.TheVariants.{Short, BadTag, BadLength}
use Rattle.ber_tlv.specs.Tag.{SpellsTag, HasBadTag}
use Rattle.ber_tlv.specs.Length.{SpellsLength, IsBadLength}
use Rattle.ber_tlv.specs.Tlv.{BeginsWith}

-- the bytes are those of this tag, and then the rest
pub record BeginsWithTag (bytes : List ℕ) (tag : ℕ) (rest : List ℕ) : Type 0 where
  pub prefix : List ℕ
  pub tagged : SpellsTag prefix tag
  pub whole : bytes ≡ prefix ++ rest

-- the bytes are those of this length, and then the rest
pub record BeginsWithLength (bytes : List ℕ) (n : ℕ) (rest : List ℕ) : Type 0 where
  pub size : List ℕ
  pub sized : SpellsLength size n
  pub whole : bytes ≡ size ++ rest

abbrev pub RefusesTag : List ℕ → TlvFault → Type 0
RefusesTag bytes BadTag = HasBadTag bytes
RefusesTag bytes BadLength = ⊥
RefusesTag bytes Short = (¬ HasBadTag bytes)
    × ((tag : ℕ) (rest : List ℕ) → ¬ BeginsWithTag bytes tag rest)

-- the first byte is one that no length has
abbrev pub BeginsBadly : List ℕ → Type 0
BeginsBadly [] = ⊥
BeginsBadly (first ∷ more) = IsBadLength first

abbrev pub RefusesLength : List ℕ → TlvFault → Type 0
RefusesLength bytes BadTag = ⊥
RefusesLength bytes BadLength = BeginsBadly bytes
RefusesLength bytes Short = (¬ BeginsBadly bytes)
    × ((n : ℕ) (rest : List ℕ) → ¬ BeginsWithLength bytes n rest)

-- the first count bytes are this tag and value
pub record StandsFirst (bytes : List ℕ) (tag : ℕ) (value : List ℕ) (count : ℕ) : Type 0 where
  pub within : count ≤ length bytes
  pub begins : BeginsWith bytes tag value (drop count bytes)
