-- How the bytes of a record are read: by cases, from the first byte on. `records_have_one_meaning`
-- says that this is what the bytes spell.
use Rattle.std.specs.Prelude.{ℕ, zero, suc, ◌==◌, if◌then◌else◌, List, [], ◌∷◌, length, Option}
use Rattle.std.specs.Prelude.{Some, None, option_and_then, option_map}
use Rattle.ber_tlv.specs.Objects.{Read, object_at, objects_of}
use Rattle.ber_tlv.specs.Walk.{Object}
use Rattle.access_rules.specs.AccessRule.{AccessRule, Modes}
use Rattle.access_rules.specs.AccessRule.Modes.{Bits, Instructions}
use Rattle.access_rules.specs.Condition.{Condition, Conditions}
use Rattle.access_rules.specs.Condition.Condition.{AllOf, Always, Key, Never, OneOf}
use Rattle.access_rules.specs.Condition.Conditions.{Also, NoMore}

abbrev pub empty_or_none : {X : Type 0} → List ℕ → X → Option X
empty_or_none [] x = Some x
empty_or_none (b ∷ bytes) x = None

-- a byte alone
abbrev pub byte_of : List ℕ → Option ℕ
byte_of [] = None
byte_of (b ∷ []) = Some b
byte_of (b ∷ c ∷ more) = None

-- whether an object is the usage qualifier of user authentication
abbrev pub asks_for_user : Object → Option Object
asks_for_user usage =
    if usage.tag == 0x95
    then option_and_then (λ user. if user == 0x08 then Some usage else None) (byte_of usage.value)
    else None

-- the key of the two objects of a key's condition
unfoldable pub key_of : List Object → Option ℕ
key_of [] = None
key_of (reference ∷ []) = None
key_of (reference ∷ usage ∷ []) =
    if reference.tag == 0x83
    then option_and_then (λ _. byte_of reference.value) (asks_for_user usage)
    else None
key_of (reference ∷ usage ∷ another ∷ objects) = None

unfoldable pub conditions_by : (Object → Option Condition) → List Object → Option Conditions
conditions_by one [] = Some NoMore
conditions_by one (object ∷ objects) = option_and_then
    (λ condition. option_map (Also condition) (conditions_by one objects)) (one object)

-- the condition of a data object, which nests no deeper than so many
unfoldable pub condition_of : ℕ → Object → Option Condition
condition_of zero object = None
condition_of (suc deeper) object =
    if object.tag == 0x90 then empty_or_none object.value Always
    else (if object.tag == 0x97 then empty_or_none object.value Never
    else (if object.tag == 0xA4
    then option_map Key (option_and_then key_of (objects_of object.value))
    else (if object.tag == 0xA0
    then option_map OneOf
    (option_and_then (conditions_by (condition_of deeper)) (objects_of object.value))
    else (if object.tag == 0xAF
    then option_map AllOf
    (option_and_then (conditions_by (condition_of deeper)) (objects_of object.value))
    else None))))

abbrev pub codes_of : List ℕ → Option Modes
codes_of [] = None
codes_of (code ∷ codes) = Some (Instructions (code ∷ codes))

unfoldable pub modes_of : Object → Option Modes
modes_of object =
    if object.tag == 0x80 then option_map Bits (byte_of object.value)
    else (if object.tag == 0x84 then codes_of object.value
    else None)

-- the rule of these modes, whose condition stands at the beginning of the bytes
unfoldable pub rule_with : Modes → List ℕ → Option (Read AccessRule)
rule_with modes bytes = option_and_then
    (λ (read : Read Object). option_map
    (λ condition. record {
      found = record { modes = modes; condition = condition };
      behind = read.behind;
    })
    (condition_of 8 read.found)) (object_at bytes)

-- the rule at the beginning of the bytes
unfoldable pub leading_rule : List ℕ → Option (Read AccessRule)
leading_rule bytes = option_and_then
    (λ (read : Read Object). option_and_then
    (λ modes. rule_with modes read.behind) (modes_of read.found)) (object_at bytes)

-- the rules of a record, of which there are no more than so many
unfoldable pub rules_in : ℕ → List ℕ → Option (List AccessRule)
rules_in most [] = Some []
rules_in zero (b ∷ bytes) = if b == 0xFF then Some [] else None
rules_in (suc most) (b ∷ bytes) =
    if b == 0xFF then Some []
    else option_and_then
    (λ (read : Read AccessRule). option_map (λ rules. read.found ∷ rules)
    (rules_in most read.behind)) (leading_rule (b ∷ bytes))

-- the rules of a record, and none where it is malformed
unfoldable pub rules_of : List ℕ → Option (List AccessRule)
rules_of bytes = rules_in (length bytes) bytes
