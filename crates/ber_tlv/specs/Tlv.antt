-- A BER-TLV data object: a tag, a length and a value.
use Rattle.std.specs.Prelude.{◌≡◌, ℕ, List, ◌∷◌, ◌++◌, length}
use Rattle.ber_tlv.specs.declared.fault.TlvFault.{TlvFault}
use Rattle.ber_tlv.specs.declared.fault.TlvFault.TheVariants.{Short, BadTag, BadLength}
use Rattle.ber_tlv.specs.Tag.{SpellsTag, tag_bytes, HasBadTag}
use Rattle.ber_tlv.specs.Length.{SpellsLength, length_bytes, IsBadLength}

-- the bytes are those of the tag, those of the value's length, and the value
pub record SpellsObject (bytes : List ℕ) (tag : ℕ) (value : List ℕ) : Type 0 where
  pub prefix : List ℕ
  pub size : List ℕ
  pub tagged : SpellsTag prefix tag
  pub sized : SpellsLength size (length value)
  pub whole : bytes ≡ prefix ++ size ++ value

-- the spelling with the fewest length bytes
abbrev pub shortest : ℕ → List ℕ → List ℕ
shortest tag value = tag_bytes tag ++ length_bytes (length value) ++ value

-- the bytes are a spelling of this tag and value, and then the rest
pub record BeginsWith (bytes : List ℕ) (tag : ℕ) (value : List ℕ) (rest : List ℕ) : Type 0 where
  pub prefix : List ℕ
  pub spelled : SpellsObject prefix tag value
  pub whole : bytes ≡ prefix ++ rest

-- behind a good tag stands a first length byte that no length has
pub record HasBadLength (bytes : List ℕ) : Type 0 where
  pub prefix : List ℕ
  pub tag : ℕ
  pub first : ℕ
  pub more : List ℕ
  pub tagged : SpellsTag prefix tag
  pub bad : IsBadLength first
  pub whole : bytes ≡ prefix ++ first ∷ more

-- what a reader of the TLV that stands first refuses: the tag is looked at before the length, and
-- where neither is bad but no TLV stands there, the bytes end too early
abbrev pub Refuses : List ℕ → TlvFault → Type 0
Refuses bytes BadTag = HasBadTag bytes
Refuses bytes BadLength = HasBadLength bytes
Refuses bytes Short = (¬ HasBadTag bytes) × (¬ HasBadLength bytes)
    × ((tag : ℕ) (value rest : List ℕ) → ¬ BeginsWith bytes tag value rest)
