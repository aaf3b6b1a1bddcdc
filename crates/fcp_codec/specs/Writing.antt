-- A file's control parameters as a card writes them (ETSI TS 102 221).
use Rattle.std.specs.Prelude.{ℕ, ◌*◌, ◌/◌, ◌^◌, ◌<◌, ◌≤◌, Bool, true, false, List, [], ◌∷◌, ◌++◌}
use Rattle.std.specs.Prelude.{Option, Some, None, option_map, IfSome, length, if◌then◌else◌, ◌==◌}
use Rattle.std.specs.Int.{w16, to_be_bytes}
use Rattle.ber_tlv.specs.Tlv.{shortest}
use Rattle.ber_tlv.specs.Walk.{Object, spelled}
use Rattle.file_rows.specs.FileHead.{holds_files}
use Rattle.file_rows.specs.Path.{own_id}
use Rattle.file_rows.specs.declared.head.FileHead.{FileHead}
use Rattle.file_rows.specs.declared.head.Kind.{Kind}
use Rattle.file_rows.specs.declared.head.Kind.TheVariants.{Master, Directory, Application}
use Rattle.file_rows.specs.declared.head.Kind.TheVariants.{Transparent, Linear, Cyclic}
use Rattle.file_rows.specs.declared.head.Life.{Life}
use Rattle.file_rows.specs.declared.head.Life.TheVariants.{Active, Deactivated, Terminated}
use Rattle.file_rows.specs.declared.head.Rule.{Rule}
use Rattle.file_rows.specs.declared.pin.PinRow.{PinRow}
use Rattle.fcp_codec.specs.declared.fcp.Fcp.{Fcp}
use Rattle.fcp_codec.specs.declared.fcp.RuleRef.TheVariants.{Whole}
use Rattle.fcp_codec.specs.PinStatus.{statuses_of, status_objects}
use Rattle.fcp_codec.specs.declared.tags.TheConstants.{TEMPLATE, SIZE, DESCRIPTOR, IDENTIFIER, NAME}
use Rattle.fcp_codec.specs.declared.tags.TheConstants.{SFI, LIFE, RULE, PROPRIETARY}

-- a descriptor byte, a data coding byte, and for record files the length of a record and how many
-- there are
abbrev pub descriptor_for : Kind → ℕ → ℕ → List ℕ
descriptor_for Master record_len size = 0x78 ∷ 0x21 ∷ []
descriptor_for Directory record_len size = 0x78 ∷ 0x21 ∷ []
descriptor_for Application record_len size = 0x78 ∷ 0x21 ∷ []
descriptor_for Transparent record_len size = 0x41 ∷ 0x21 ∷ []
descriptor_for Linear record_len size = 0x42 ∷ 0x21 ∷ 0 ∷ record_len ∷ size / record_len ∷ []
descriptor_for Cyclic record_len size = 0x46 ∷ 0x21 ∷ 0 ∷ record_len ∷ size / record_len ∷ []

abbrev pub life_byte : Life → ℕ
life_byte Active = 5
life_byte Deactivated = 4
life_byte Terminated = 12

abbrev pub name_objects : List ℕ → List Object
name_objects [] = []
name_objects (byte ∷ bytes) = record { tag = NAME; value = byte ∷ bytes } ∷ []

-- what a directory says of the UICC (its characteristics)
abbrev pub proprietary_objects : Bool → List Object
proprietary_objects false = []
proprietary_objects true = record { tag = PROPRIETARY; value = 0x80 ∷ 0x01 ∷ 0x71 ∷ [] } ∷ []

-- the EF ARR and the record
abbrev pub rule_objects : Option Rule → List Object
rule_objects None = []
rule_objects (Some rule) = record {
  tag = RULE;
  value = to_be_bytes w16 rule.file ++ rule.row
      ∷ [];
} ∷ []

abbrev pub sfi_objects : ℕ → List Object
sfi_objects sfi = if sfi == 0 then [] else record { tag = SFI; value = sfi * 8 ∷ [] } ∷ []

-- what only directories have, and what only EFs have
abbrev pub last_objects : Bool → FileHead → List PinRow → List Object
last_objects true head pins = status_objects (statuses_of head.path pins)
last_objects false head pins = record { tag = SIZE; value = to_be_bytes w16 head.size }
    ∷ sfi_objects head.sfi

-- the fields, in order
abbrev pub objects_for : FileHead → List PinRow → List Object
objects_for head pins =
    record { tag = DESCRIPTOR; value = descriptor_for head.kind head.record_len head.size }
    ∷ record { tag = IDENTIFIER; value = to_be_bytes w16 (own_id head.path) }
    ∷ name_objects head.name ++ proprietary_objects (holds_files head.kind)
    ++ record { tag = LIFE; value = life_byte head.life ∷ [] }
    ∷ rule_objects head.rule ++ last_objects (holds_files head.kind) head pins

abbrev pub written_fcp : FileHead → List PinRow → List ℕ
written_fcp head pins = shortest TEMPLATE (spelled (objects_for head pins))

-- the name, where there is one
abbrev pub name_for : List ℕ → Option (List ℕ)
name_for [] = None
name_for (byte ∷ bytes) = Some (byte ∷ bytes)

-- the size of an EF, and its SFI where it has one
abbrev pub size_for : Bool → ℕ → Option ℕ
size_for true size = None
size_for false size = Some size

abbrev pub sfi_for : Bool → ℕ → Option ℕ
sfi_for true sfi = None
sfi_for false sfi = if sfi == 0 then None else Some sfi

-- what a file's control parameters say of it
abbrev pub fcp_for : FileHead → Fcp
fcp_for head = record {
  descriptor = descriptor_for head.kind head.record_len head.size;
  id = Some (own_id head.path);
  size = size_for (holds_files head.kind) head.size;
  sfi = sfi_for (holds_files head.kind) head.sfi;
  name = name_for head.name;
  life = Some head.life;
  rule = option_map Whole head.rule;
}

-- what has room in its field
pub record FitsFields (head : FileHead) : Type 0 where
  pub id : own_id head.path < 2 ^ 16
  pub size : head.size < 2 ^ 16
  pub rule : IfSome head.rule (λ rule. rule.file < 2 ^ 16)
  pub name : length head.name ≤ 17
  pub sfi : head.sfi ≤ 30
