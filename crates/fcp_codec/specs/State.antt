-- What is kept while fields are read.
use Rattle.std.specs.Prelude.{◌≡◌, ℕ, true, false, List, [], ◌∷◌, ◌++◌, Option, is_some}
use Rattle.std.specs.Prelude.{option_and_then, MatchResult, Result}
use Rattle.ber_tlv.specs.Walk.{Object}
use Rattle.fcp_codec.specs.declared.fault.FcpFault.{FcpFault}
use Rattle.fcp_codec.specs.declared.fault.FcpFault.TheVariants.{BadField}
use Rattle.fcp_codec.specs.declared.read.Fields.{Fields}
use Rattle.fcp_codec.specs.declared.tags.TheConstants.{SIZE, DESCRIPTOR, IDENTIFIER, NAME, SFI}
use Rattle.fcp_codec.specs.declared.tags.TheConstants.{LIFE, RULE, PROPRIETARY, PIN_STATUS}
use Rattle.fcp_codec.specs.RuleRef.{rule_of}
use Rattle.fcp_codec.specs.Values.{descriptor_of, id_of, size_of, sfi_of, name_of, life_of}
use Rattle.fcp_codec.specs.Reading.{field, is_bad}

-- a slot has what the value says, where there is one
pub record Keeps {X : Type 0} (read : List ℕ
    → Option X) (value : Option (List ℕ)) (slot : Option X) : Type 0 where
  pub says : slot ≡ option_and_then read value
  pub there : is_some slot ≡ is_some value

-- the slots have what the fields of these objects say
pub record Keep (objects : List Object) (fields : Fields) : Type 0 where
  pub descriptor : Keeps descriptor_of (field DESCRIPTOR objects) fields.descriptor
  pub id : Keeps id_of (field IDENTIFIER objects) fields.id
  pub size : Keeps size_of (field SIZE objects) fields.size
  pub sfi : Keeps sfi_of (field SFI objects) fields.sfi
  pub name : Keeps name_of (field NAME objects) fields.name
  pub life : Keeps life_of (field LIFE objects) fields.life
  pub rule : Keeps rule_of (field RULE objects) fields.rule
  pub proprietary : fields.proprietary ≡ is_some (field PROPRIETARY objects)
  pub pin_status : fields.pin_status ≡ is_some (field PIN_STATUS objects)

-- one object more was taken, or it is bad
abbrev pub TakesOneMore : List Object → Object → Fields → Result (Unit {0}) FcpFault → Type 0
TakesOneMore objects object new result =
    MatchResult result (λ _. (is_bad objects object ≡ false) × Keep (objects ++ object ∷ []) new)
    (λ fault. (is_bad objects object ≡ true) × (fault ≡ BadField object.tag))
