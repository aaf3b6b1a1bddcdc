-- The metadata of a load (GSMA SGP.22, StoreMetadata): BF25 with 5A, 91, 92, and where they stand
-- 95, B6 and 99.
use Rattle.std.specs.Prelude.{ℕ, Bool, ◌+◌, ◌==◌, ◌&&◌, nat_le, if◌then◌else◌, List, [], ◌∷◌}
use Rattle.std.specs.Prelude.{length, Option, Some, None, option_and_then, option_map, Result}
use Rattle.std.specs.List.{list_all}
use Rattle.std.specs.Option.{ok_or}
use Rattle.ber_tlv.specs.Objects.{objects_of}
use Rattle.ber_tlv.specs.Walk.{Object}
use Rattle.isdr_codec.specs.Fields.{field_in, needed_in, sole}
use Rattle.isdr_codec.specs.Values.{bit_1, bit_2, bits_in, of_length, operations_in, text_in}
use Rattle.isdr_codec.specs.declared.metadata.MetaFault.{MetaFault}
use Rattle.isdr_codec.specs.declared.metadata.MetaFault.TheVariants.{BadMetadata}
use Rattle.record_codec.specs.declared.profile.NoteTarget.{NoteTarget}
use Rattle.record_codec.specs.declared.profile.ProfileHead.{ProfileHead}

-- 0 test, 1 provisioning, 2 operational, which it is where none stands there
abbrev pub class_where : Option (List ℕ) → Option ℕ
class_where None = Some 2
class_where (Some value) =
    option_and_then (λ class. if nat_le class 2 then Some class else None) (sole value)

-- bit 1 is PPR1 and bit 2 is PPR2; a policy byte has 1 for PPR1 and 2 for PPR2
abbrev pub policy_of : ℕ → ℕ
policy_of bits = (if bit_1 bits then 1 else 0) + (if bit_2 bits then 2 else 0)

abbrev pub policy_where : Option (List ℕ) → Option ℕ
policy_where None = Some 0
policy_where (Some value) = option_map policy_of (bits_in value)

-- printable ASCII characters without the space
abbrev pub are_printable : List ℕ → Bool
are_printable value = list_all (λ byte. nat_le 0x21 byte && nat_le byte 0x7E) value

-- 1 to 64 of them
abbrev pub address_in : List ℕ → Option (List ℕ)
address_in value =
    if nat_le 1 (length value) && nat_le (length value) 64 && are_printable value
    then Some value else None

-- 80, the operations, and 81, the address
abbrev pub note_target_in : List ℕ → Option NoteTarget
note_target_in value = option_and_then (λ bits. option_map
    (λ address. record { operations = operations_in bits; address = address })
    (option_and_then address_in (needed_in 0x81 value)))
    (option_and_then bits_in (needed_in 0x80 value))

-- an entry 30 with them
abbrev pub note_target_of : Object → Option NoteTarget
note_target_of object = if object.tag == 0x30 then note_target_in object.value else None

abbrev pub targets_among : List Object → Option (List NoteTarget)
targets_among [] = Some []
targets_among (object ∷ objects) = option_and_then
    (λ target. option_map (λ targets. target ∷ targets) (targets_among objects))
    (note_target_of object)

-- at most eight such entries and nothing else
abbrev pub targets_in : List ℕ → Option (List NoteTarget)
targets_in value = option_and_then
    (λ objects. if nat_le (length objects) 8 then targets_among objects else None)
    (objects_of value)

abbrev pub targets_where : Option (List ℕ) → Option (List NoteTarget)
targets_where None = Some []
targets_where (Some value) = targets_in value

-- the fields; the number, which the card gives, is 0, and the nickname empty
abbrev pub head_in : List ℕ → Option ProfileHead
head_in value =
    option_and_then (λ iccid. option_and_then (λ provider. option_and_then (λ name.
    option_and_then (λ class. option_and_then (λ policy. option_map (λ targets. record {
      number = 0;
      iccid = iccid;
      provider = provider;
      name = name;
      nickname = [];
      class = class;
      policy = policy;
      targets = targets;
    }) (option_and_then targets_where (field_in 0xB6 value)))
    (option_and_then policy_where (field_in 0x99 value)))
    (option_and_then class_where (field_in 0x95 value)))
    (option_and_then (text_in 64) (needed_in 0x92 value)))
    (option_and_then (text_in 32) (needed_in 0x91 value)))
    (option_and_then (of_length 10) (needed_in 0x5A value))

-- one object BF25 with nothing behind it
abbrev pub head_of_object : Object → Option ProfileHead
head_of_object object = if object.tag == 0xBF25 then head_in object.value else None

abbrev pub metadata_of : List ℕ → Result ProfileHead MetaFault
metadata_of bytes =
    ok_or (option_and_then head_of_object (option_and_then sole (objects_of bytes))) BadMetadata
