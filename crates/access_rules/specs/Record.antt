-- The bytes of a record of an EF ARR (ETSI TS 102 221, access rules in expanded format; ISO/IEC
-- 7816-4).
use Rattle.std.specs.Prelude.{◌≡◌, ◌≢◌, ◌≤◌, ◌⊎◌, ℕ, List, [], ◌∷◌, ⊤}
use Rattle.ber_tlv.specs.Tlv.{BeginsWith}
use Rattle.ber_tlv.specs.Walk.{LeadWith, Object}
use Rattle.access_rules.specs.AccessRule.{AccessRule, Modes}
use Rattle.access_rules.specs.AccessRule.Modes.{Bits, Instructions}
use Rattle.access_rules.specs.Condition.{Condition, Conditions, depth}
use Rattle.access_rules.specs.Condition.Condition.{AllOf, Always, Key, Never, OneOf}
use Rattle.access_rules.specs.Condition.Conditions.{Also, NoMore}

-- the access mode data object `80` with a byte of mode bits, or `84` with instruction codes
abbrev pub IsModes : Object → Modes → Type 0
IsModes object (Bits bits) = (object.tag ≡ 0x80) × (object.value ≡ bits ∷ [])
IsModes object (Instructions codes) = (object.tag ≡ 0x84) × (object.value ≡ codes) × (codes ≢ [])

-- the key reference `83` and then the usage qualifier `95`, which asks for user authentication
abbrev pub key_objects : ℕ → List Object
key_objects key =
    record { tag = 0x83; value = key ∷ [] } ∷ record { tag = 0x95; value = 0x08 ∷ [] } ∷ []

-- a security condition data object: `90` always, `97` never, `A4` a key, `A0` one of its list,
-- `AF` all of its list
abbrev mutual
  pub IsCondition : Object → Condition → Type 0
  IsCondition object Always = (object.tag ≡ 0x90) × (object.value ≡ [])
  IsCondition object Never = (object.tag ≡ 0x97) × (object.value ≡ [])
  IsCondition object (Key key) = (object.tag ≡ 0xA4) × LeadWith object.value (key_objects key) []
  IsCondition object (OneOf conditions) = (object.tag ≡ 0xA0)
      × ((objects : List Object) × LeadWith object.value objects []
      × AreConditions objects conditions)
  IsCondition object (AllOf conditions) = (object.tag ≡ 0xAF)
      × ((objects : List Object) × LeadWith object.value objects []
      × AreConditions objects conditions)

  pub AreConditions : List Object → Conditions → Type 0
  AreConditions [] NoMore = ⊤
  AreConditions [] (Also condition conditions) = ⊥
  AreConditions (object ∷ objects) NoMore = ⊥
  AreConditions (object ∷ objects) (Also condition conditions) =
      IsCondition object condition × AreConditions objects conditions

-- the record has no more rules: it ends, or a byte FF follows
abbrev pub HasNoMore : List ℕ → Type 0
HasNoMore bytes = (bytes ≡ []) ⊎ ((rest : List ℕ) × (bytes ≡ 0xFF ∷ rest))

-- the bytes begin with the two objects of this rule, and then comes the rest
pub record BeginsWithRule (bytes : List ℕ) (rule : AccessRule) (rest : List ℕ) : Type 0 where
  pub modes : Object
  pub condition : Object
  pub behind : List ℕ
  pub first : BeginsWith bytes modes.tag modes.value behind
  pub second : BeginsWith behind condition.tag condition.value rest
  pub modes_are : IsModes modes rule.modes
  pub condition_is : IsCondition condition rule.condition
  pub shallow : depth rule.condition ≤ 8

-- the bytes of a record spell these rules
abbrev pub SpellsRules : List ℕ → List AccessRule → Type 0
SpellsRules bytes [] = HasNoMore bytes
SpellsRules bytes (rule ∷ rules) =
    (rest : List ℕ) × BeginsWithRule bytes rule rest × SpellsRules rest rules
