-- The head of a BER-TLV data object: its tag and its length, before the value.
use Rattle.std.specs.Prelude.{◌≡◌, ℕ, List, ◌++◌}
use Rattle.ber_tlv.specs.declared.fault.TlvFault.{TlvFault}
use Rattle.ber_tlv.specs.declared.fault.TlvFault.TheVariants.{Short, BadTag, BadLength}
use Rattle.ber_tlv.specs.Tag.{SpellsTag, HasBadTag}
use Rattle.ber_tlv.specs.Length.{SpellsLength}
use Rattle.ber_tlv.specs.Tlv.{HasBadLength}

-- the bytes are those of the tag and then those of the length
pub record SpellsHead (bytes : List ℕ) (tag n : ℕ) : Type 0 where
  pub prefix : List ℕ
  pub size : List ℕ
  pub tagged : SpellsTag prefix tag
  pub sized : SpellsLength size n
  pub whole : bytes ≡ prefix ++ size

-- the bytes begin with this head, and then comes the rest
pub record BeginsWithHead (bytes : List ℕ) (tag n : ℕ) (rest : List ℕ) : Type 0 where
  pub head : List ℕ
  pub spelled : SpellsHead head tag n
  pub whole : bytes ≡ head ++ rest

-- what a reader of the head that stands first refuses: the tag is looked at before the length, and
-- where neither is bad but no head stands there, the bytes end too early
abbrev pub RefusesHead : List ℕ → TlvFault → Type 0
RefusesHead bytes BadTag = HasBadTag bytes
RefusesHead bytes BadLength = HasBadLength bytes
RefusesHead bytes Short = (¬ HasBadTag bytes) × (¬ HasBadLength bytes)
    × ((tag n : ℕ) (rest : List ℕ) → ¬ BeginsWithHead bytes tag n rest)
