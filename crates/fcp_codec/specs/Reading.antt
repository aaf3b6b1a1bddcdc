-- What is read from a list of fields.
use Rattle.std.specs.Prelude.{◌≡◌, ◌≢◌, ◌⊎◌, ℕ, Bool, true, false, ◌&&◌, ◌||◌, not, List, [], ◌∷◌}
use Rattle.std.specs.Prelude.{◌++◌, Option, Some, None, is_some, option_and_then, unwrap_or}
use Rattle.std.specs.Prelude.{if◌then◌else◌, ◌==◌, Result, Ok, Err, ⊤}
use Rattle.std.specs.List.{list_any}
use Rattle.ber_tlv.specs.Objects.{objects_of}
use Rattle.ber_tlv.specs.Tlv.{BeginsWith, Refuses}
use Rattle.ber_tlv.specs.Walk.{Object, LeadWith}
use Rattle.ber_tlv.specs.declared.fault.TlvFault.{TlvFault}
use Rattle.fcp_codec.specs.declared.fault.FcpFault.{FcpFault}
use Rattle.fcp_codec.specs.declared.fault.FcpFault.TheVariants.{BadField}
use Rattle.fcp_codec.specs.declared.fcp.Fcp.{Fcp}
use Rattle.fcp_codec.specs.declared.tags.TheConstants.{SIZE, DESCRIPTOR, IDENTIFIER, NAME, SFI}
use Rattle.fcp_codec.specs.declared.tags.TheConstants.{LIFE, RULE, PROPRIETARY, PIN_STATUS}
use Rattle.fcp_codec.specs.RuleRef.{rule_of}
use Rattle.fcp_codec.specs.Values.{id_of, size_of, sfi_of, name_of, life_of, is_well_formed}

-- the tags of the fields; objects with other tags are passed over
abbrev pub field_tags : List ℕ
field_tags = DESCRIPTOR ∷ IDENTIFIER ∷ NAME ∷ PROPRIETARY ∷ LIFE ∷ RULE ∷ PIN_STATUS ∷ SIZE ∷ SFI
    ∷ []

abbrev pub is_field : ℕ → Bool
is_field tag = list_any (λ other. tag == other) field_tags

-- the value of the first object with that tag
abbrev pub field : ℕ → List Object → Option (List ℕ)
field tag [] = None
field tag (object ∷ objects) = if object.tag == tag then Some object.value else field tag objects

-- after these objects, this one is a field that stands there again or is malformed
abbrev pub is_bad : List Object → Object → Bool
is_bad before object =
    is_field object.tag
    && (is_some (field object.tag before) || not (is_well_formed object.tag object.value))

-- after those before them, none of these objects is bad
abbrev pub NoneIsBad : List Object → List Object → Type 0
NoneIsBad before [] = ⊤
NoneIsBad before (object ∷ objects) = (is_bad before object ≡ false)
    × NoneIsBad (before ++ object ∷ []) objects

-- what the fields say
abbrev pub fcp_of : List Object → Fcp
fcp_of objects = record {
  descriptor = unwrap_or (field DESCRIPTOR objects) [];
  id = option_and_then id_of (field IDENTIFIER objects);
  size = option_and_then size_of (field SIZE objects);
  sfi = option_and_then sfi_of (field SFI objects);
  name = option_and_then name_of (field NAME objects);
  life = option_and_then life_of (field LIFE objects);
  rule = option_and_then rule_of (field RULE objects);
}

-- where the rest begins a bad object stands, or the list is broken, which counts as tag 0
abbrev pub StopsAt : List Object → List ℕ → ℕ → Type 0
StopsAt before rest tag =
    ((object : Object) × (behind : List ℕ) × BeginsWith rest object.tag object.value behind
    × (is_bad before object ≡ true) × (tag ≡ object.tag))
    ⊎ ((rest ≢ []) × (fault : TlvFault) × Refuses rest fault × (tag ≡ 0))

-- a value that is objects without a bad one, and what their fields say
pub record ReadsAsFcp (value : List ℕ) (fcp : Fcp) : Type 0 where
  pub objects : List Object
  pub whole : LeadWith value objects []
  pub good : NoneIsBad [] objects
  pub says : fcp ≡ fcp_of objects

-- a value that begins with objects without a bad one, and what stands behind them
pub record RefusedAt (value : List ℕ) (tag : ℕ) : Type 0 where
  pub objects : List Object
  pub rest : List ℕ
  pub prefix : LeadWith value objects rest
  pub good : NoneIsBad [] objects
  pub stop : StopsAt objects rest tag

-- what reading a value answers
abbrev pub ReadsFcp : List ℕ → Result Fcp FcpFault → Type 0
ReadsFcp value (Ok fcp) = ReadsAsFcp value fcp
ReadsFcp value (Err (BadField tag)) = RefusedAt value tag

-- after those before them, none of these objects is a field that stands there again or is malformed
abbrev pub are_good : List Object → List Object → Bool
are_good before [] = true
are_good before (object ∷ objects) =
    not (is_bad before object) && are_good (before ++ object ∷ []) objects

-- what the fields say, where none is bad
abbrev pub fcp_if_good : List Object → Option Fcp
fcp_if_good objects = if are_good [] objects then Some (fcp_of objects) else None

-- what the fields in a value say, where it is objects of which none is bad
abbrev pub fields_in : List ℕ → Option Fcp
fields_in value = option_and_then fcp_if_good (objects_of value)
