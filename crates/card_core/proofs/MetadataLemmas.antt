-- The head that metadata give is one that a profile may have.
use Rattle.std.proofs.Common.{◌≡◌, ◌≤◌, ℕ, Bool, true, false, cond, ◌&&◌, List, [], ◌∷◌, length}
use Rattle.std.proofs.Common.{nat_eq, nat_le, Option, Some, None, Ok, refl, arith, if◌then◌else◌}
use Rattle.std.proofs.Common.{subst, ap, suc}
use Rattle.std.proofs.lemmas.Bool.{leb-true}
use Rattle.std.specs.List.{AllByRecursion}
use Rattle.std.specs.Option.{ok_or}
use Rattle.std.specs.Prelude.{IfSome, option_and_then, option_map}
use Rattle.std.specs.Str.{is_utf8}
use Rattle.ber_tlv.specs.Objects.{objects_of}
use Rattle.ber_tlv.specs.Walk.{Object}
use Rattle.isdr_codec.specs.Fields.{field_in, needed_in, sole}
use Rattle.isdr_codec.specs.Metadata.{address_in, are_printable, class_where, head_in}
use Rattle.isdr_codec.specs.Metadata.{head_of_object, metadata_of, note_target_in, note_target_of}
use Rattle.isdr_codec.specs.Metadata.{policy_where, targets_among, targets_where}
use Rattle.isdr_codec.specs.Values.{bits_in, of_length, operations_in, text_in}
use Rattle.isdr_codec.specs.declared.metadata.MetaFault.TheVariants.{BadMetadata}
use Rattle.record_codec.specs.IsDurable.{IsAddress, IsHead}
use Rattle.record_codec.specs.declared.profile.NoteTarget.{NoteTarget}
use Rattle.record_codec.specs.declared.profile.ProfileHead.{ProfileHead}

-- what holds of each value that goes on holds of what comes of it
module _ {X Y : Type 0} (Q : X → Type 0) (P : Y → Type 0) where
  going : (goes_on : X → Option Y) → ((x : X) → Q x → IfSome (goes_on x) P) → (o : Option X)
      → IfSome o Q → IfSome (option_and_then goes_on o) P
  going goes_on each None has = tt
  going goes_on each (Some x) has = each x has

  mapped : (make : X → Y) → ((x : X) → Q x → P (make x)) → (o : Option X) → IfSome o Q
      → IfSome (option_map make o) P
  mapped make each None has = tt
  mapped make each (Some x) has = each x has

any : {X : Type 0} (o : Option X) → IfSome o (λ x. Unit {0})
any None = tt
any (Some x) = tt

-- the bytes of a text
abbrev IsShort : ℕ → List ℕ → Type 0
IsShort most text = length text ≤ most

short : (most : ℕ) (o : Option (List ℕ))
    → IfSome (option_and_then (text_in most) o) (IsShort most)
short most None = tt
short most (Some text) = by (nat_le (length text) most) (is_utf8 text) refl
  where
    by : (few utf8 : Bool) → nat_le (length text) most ≡ few
        → IfSome (cond (few && utf8) (Some text) None) (IsShort most)
    by true true is = leb-true (length text) most is
    by true false is = tt
    by false utf8 is = tt

abbrev IsPrintable : ℕ → Type 0
IsPrintable character = (0x21 ≤ character) × (character ≤ 0x7E)

printable : (bytes : List ℕ) → are_printable bytes ≡ true → AllByRecursion IsPrintable bytes
printable [] is = tt
printable (byte ∷ bytes) is =
    by (nat_le 0x21 byte) (nat_le byte 0x7E) (are_printable bytes) refl refl refl
    (λ rest. printable bytes rest) is
  where
    by : (above below rest : Bool) → nat_le 0x21 byte ≡ above → nat_le byte 0x7E ≡ below
        → are_printable bytes ≡ rest
        → (are_printable bytes ≡ true → AllByRecursion IsPrintable bytes)
        → ((above && below) && rest) ≡ true → AllByRecursion IsPrintable (byte ∷ bytes)
    by true true true above below rest others is =
        ((leb-true 0x21 byte above, leb-true byte 0x7E below), others rest)
    by true true false above below rest others is = absurd cc
    by true false rest above below some others is = absurd cc
    by false below rest above none some others is = absurd cc

address : (value : List ℕ) → IfSome (address_in value) IsAddress
address value =
    by (nat_le 1 (length value)) (nat_le (length value) 64) (are_printable value) refl refl refl
  where
    by : (some few fine : Bool) → nat_le 1 (length value) ≡ some
        → nat_le (length value) 64 ≡ few → are_printable value ≡ fine
        → IfSome (cond ((some && few) && fine) (Some value) None) IsAddress
    by true true true some few fine = record {
      some = leb-true 1 (length value) some;
      few = leb-true (length value) 64 few;
      each = printable value fine;
    }
    by true true false some few fine = tt
    by true false fine some few is = tt
    by false few fine some is one = tt

abbrev IsTargetHead : NoteTarget → Type 0
IsTargetHead target = IsAddress target.address

address_where : (o : Option (List ℕ)) → IfSome (option_and_then address_in o) IsAddress
address_where None = tt
address_where (Some value) = address value

target : (value : List ℕ) → IfSome (note_target_in value) IsTargetHead
target value =
    going (λ bits. Unit {0}) IsTargetHead
    (λ bits. option_map
    (λ address. record { operations = operations_in bits; address = address })
    (option_and_then address_in (needed_in 0x81 value)))
    (λ bits has. mapped IsAddress IsTargetHead
    (λ address. record { operations = operations_in bits; address = address })
    (λ address is. is) (option_and_then address_in (needed_in 0x81 value))
    (address_where (needed_in 0x81 value)))
    (option_and_then bits_in (needed_in 0x80 value))
    (any (option_and_then bits_in (needed_in 0x80 value)))

target_of : (object : Object) → IfSome (note_target_of object) IsTargetHead
target_of object = by (nat_eq object.tag 0x30)
  where
    by : (is : Bool) → IfSome (cond is (note_target_in object.value) None) IsTargetHead
    by true = target object.value
    by false = tt

record AreTargets (many : ℕ) (targets : List NoteTarget) : Type 0 where
  count : length targets ≡ many
  each : AllByRecursion IsTargetHead targets

targets : (objects : List Object) → IfSome (targets_among objects) (AreTargets (length objects))
targets [] = record { count = refl; each = tt }
targets (object ∷ objects) =
    going IsTargetHead (AreTargets (length (object ∷ objects)))
    (λ one. option_map (λ others. one ∷ others) (targets_among objects))
    (λ one is. mapped (AreTargets (length objects)) (AreTargets (length (object ∷ objects)))
    (λ others. one ∷ others)
    (λ others are. record { count = ap suc are.count; each = (is, are.each) })
    (targets_among objects) (targets objects))
    (note_target_of object) (target_of object)

record HasTargets (targets : List NoteTarget) : Type 0 where
  few : length targets ≤ 8
  each : AllByRecursion IsTargetHead targets

few_targets : (objects : List Object)
    → IfSome (if nat_le (length objects) 8 then targets_among objects else None) HasTargets
few_targets objects = by (nat_le (length objects) 8) refl (targets_among objects) (targets objects)
  where
    by : (few : Bool) → nat_le (length objects) 8 ≡ few → (its : Option (List NoteTarget))
        → IfSome its (AreTargets (length objects)) → IfSome (cond few its None) HasTargets
    by true is None are = tt
    by true is (Some its) are = record {
      few =
          let at_most : length objects ≤ 8 = leb-true (length objects) 8 is in
          omega (arith, are.count);
      each = are.each;
    }
    by false is its are = tt

targets_have : (value : Option (List ℕ)) → IfSome (targets_where value) HasTargets
targets_have None = record { few = omega arith; each = tt }
targets_have (Some value) =
    going (λ objects. Unit {0}) HasTargets
    (λ objects. if nat_le (length objects) 8 then targets_among objects else None)
    (λ objects has. few_targets objects) (objects_of value) (any (objects_of value))

targets_field : (o : Option (Option (List ℕ)))
    → IfSome (option_and_then targets_where o) HasTargets
targets_field None = tt
targets_field (Some value) = targets_have value

pub good_head : (value : List ℕ) → IfSome (head_in value) IsHead
good_head value =
    going (λ iccid. Unit {0}) IsHead _ (λ iccid has.
    going (IsShort 32) IsHead _ (λ provider provider_is.
    going (IsShort 64) IsHead _ (λ name name_is.
    going (λ class. Unit {0}) IsHead _ (λ class has.
    going (λ policy. Unit {0}) IsHead _ (λ policy has.
    mapped HasTargets IsHead _ (λ targets are. record {
      provider = provider_is;
      name = name_is;
      nickname = omega arith;
      few = are.few;
      addresses = are.each;
    }) (option_and_then targets_where (field_in 0xB6 value))
    (targets_field (field_in 0xB6 value)))
    (option_and_then policy_where (field_in 0x99 value))
    (any (option_and_then policy_where (field_in 0x99 value))))
    (option_and_then class_where (field_in 0x95 value))
    (any (option_and_then class_where (field_in 0x95 value))))
    (option_and_then (text_in 64) (needed_in 0x92 value)) (short 64 (needed_in 0x92 value)))
    (option_and_then (text_in 32) (needed_in 0x91 value)) (short 32 (needed_in 0x91 value)))
    (option_and_then (of_length 10) (needed_in 0x5A value))
    (any (option_and_then (of_length 10) (needed_in 0x5A value)))

of_object : (object : Object) → IfSome (head_of_object object) IsHead
of_object object = by (nat_eq object.tag 0xBF25)
  where
    by : (is : Bool) → IfSome (cond is (head_in object.value) None) IsHead
    by true = good_head object.value
    by false = tt

-- metadata that are taken give such a head
pub good_metadata : (bytes : List ℕ) (head : ProfileHead) → metadata_of bytes ≡ Ok head → IsHead head
good_metadata bytes head is =
    by (option_and_then sole (objects_of bytes)) is
  where
    made : (found : Option ProfileHead) → IfSome found IsHead → ok_or found BadMetadata ≡ Ok head
        → IsHead head
    made None has is = absurd cc
    made (Some one) has is = let same : one ≡ head = cc in subst IsHead same has

    by : (object : Option Object)
        → ok_or (option_and_then head_of_object object) BadMetadata ≡ Ok head → IsHead head
    by None is = made None tt is
    by (Some object) is = made (head_of_object object) (of_object object) is

pub ruleset good_heads = (good_metadata)
