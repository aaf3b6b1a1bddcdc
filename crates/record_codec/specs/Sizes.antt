-- Which values have a coding: those whose numbers and lists have room in their fields and types.
use Rattle.std.specs.Prelude.{ℕ, ◌≡◌, ◌≤◌, ◌<◌, ◌^◌, List, length, IfSome, ⊤}
use Rattle.std.specs.List.{AllByRecursion}
use Rattle.file_rows.specs.declared.change.Change.{Change}
use Rattle.file_rows.specs.declared.change.Change.TheVariants.{WriteRange, WriteRecord, PinSet}
use Rattle.file_rows.specs.declared.change.Change.TheVariants.{FileAdd, FileGone, FileState}
use Rattle.file_rows.specs.declared.change.Change.TheVariants.{FileSize}
use Rattle.file_rows.specs.declared.head.FileHead.{FileHead}
use Rattle.file_rows.specs.declared.head.Rule.{Rule}
use Rattle.file_rows.specs.declared.pin.PinRow.{PinRow}
use Rattle.file_rows.specs.declared.pin.Puk.{Puk}
use Rattle.file_rows.specs.declared.row.FileRow.{FileRow}
use Rattle.notify_list.specs.declared.note.Note.{Note}
use Rattle.record_codec.specs.Spelling.{spelling}
use Rattle.record_codec.specs.declared.profile.NoteTarget.{NoteTarget}
use Rattle.record_codec.specs.declared.profile.ProfileHead.{ProfileHead}
use Rattle.record_codec.specs.declared.record.Record.{Record}
use Rattle.record_codec.specs.declared.record.Record.TheVariants as records

-- both facts
infixr 2 ◌also◌
abbrev pub ◌also◌ : Type 0 → Type 0 → Type 0
P also Q = P × Q

abbrev pub IsByte : ℕ → Type 0
IsByte n = n < 2 ^ 8

abbrev pub IsNumber2 : ℕ → Type 0
IsNumber2 n = n < 2 ^ 16

abbrev pub IsNumber4 : ℕ → Type 0
IsNumber4 n = n < 2 ^ 32

abbrev pub IsNumber8 : ℕ → Type 0
IsNumber8 n = n < 2 ^ 64

-- so many bytes
abbrev pub IsPlain : ℕ → List ℕ → Type 0
IsPlain count bytes = length bytes ≡ count

-- at most so many bytes
abbrev pub IsString : ℕ → List ℕ → Type 0
IsString most bytes = length bytes ≤ most

-- at most so many items, each of which has a coding
abbrev pub IsList : {X : Type 0} → ℕ → (X → Type 0) → List X → Type 0
IsList most P items = (length items ≤ most) × AllByRecursion P items

abbrev pub IsPath : List ℕ → Type 0
IsPath ids = IsList 4 IsNumber2 ids

abbrev pub IsRule : Rule → Type 0
IsRule r = IsNumber2 r.file also IsByte r.row

abbrev pub IsForm : FileHead → Type 0
IsForm head =
    IsPath head.path also ⊤ also ⊤ also IsByte head.sfi also IsString 16 head.name
    also IfSome head.rule IsRule
    also IsByte head.record_len

abbrev pub IsFileHead : FileHead → Type 0
IsFileHead head = IsForm head also IsNumber2 head.size

-- a file's size is that of its body
abbrev pub HasFileSizes : FileRow → Type 0
HasFileSizes row = (IsForm row.head also IsString 65535 row.body)
    × (length row.body ≡ row.head.size)

abbrev pub IsPuk : Puk → Type 0
IsPuk p = IsPlain 8 p.value also IsByte p.max also IsByte p.left

abbrev pub HasPinSizes : PinRow → Type 0
HasPinSizes row =
    IsByte row.number also IsPath row.home also IsByte row.key also IsPlain 8 row.value
    also IsByte row.max
    also IsByte row.left
    also ⊤
    also IfSome row.puk IsPuk

abbrev pub IsChange : Change → Type 0
IsChange (WriteRange at offset bytes) = IsPath at also IsNumber2 offset also IsString 255 bytes
IsChange (WriteRecord at number bytes) = IsPath at also IsByte number also IsString 255 bytes
IsChange (PinSet row) = HasPinSizes row
IsChange (FileAdd head) = IsFileHead head
IsChange (FileGone at) = IsPath at
IsChange (FileState at state) = IsPath at also ⊤
IsChange (FileSize at size) = IsPath at also IsNumber2 size

abbrev pub IsNote : Note → Type 0
IsNote n = IsNumber4 n.number also ⊤ also IsPlain 10 n.iccid also IsString 64 n.address

abbrev pub IsTarget : NoteTarget → Type 0
IsTarget t = IsByte t.operations also IsString 64 t.address

abbrev pub IsProfileHead : ProfileHead → Type 0
IsProfileHead head =
    IsNumber2 head.number also IsPlain 10 head.iccid also IsString 32 head.provider
    also IsString 64 head.name
    also IsString 64 head.nickname
    also IsByte head.class
    also IsByte head.policy
    also IsList 8 IsTarget head.targets

abbrev pub HasCoding : Record → Type 0
HasCoding (records.PutCard how ports eid next_number next_note notes) =
    ⊤ also IsByte ports also IsPlain 16 eid also IsNumber4 next_number also IsNumber8 next_note
    also IsList 65535 IsNote notes
HasCoding (records.PutProfile installation profile port) =
    ⊤ also IsProfileHead profile.head also IfSome port IsByte
    also IsList 65535 HasFileSizes profile.content.rows
    also IsList 65535 HasPinSizes profile.content.pins
HasCoding (records.Content profile its) = IsNumber2 profile also IsChange its
HasCoding (records.Bind profile port displaced) =
    IsNumber2 profile also IsByte port also IfSome displaced IsNumber2
HasCoding (records.Unbind profile) = IsNumber2 profile
HasCoding (records.Gone profiles) = IsList 16 IsNumber2 profiles
HasCoding (records.Name profile nickname) = IsNumber2 profile also IsString 64 nickname
HasCoding (records.NoteGone number) = IsNumber4 number

-- the bytes are the coding of the record
pub record Codes (bytes : List ℕ) (entry : Record) : Type 0 where
  pub values : HasCoding entry
  pub bytes_are : bytes ≡ spelling entry

-- The lists of a record have room in its coding, and each of its files is as long as its head says.
-- A record that fits has them so.
abbrev pub HasSizes : Record → Type 0
HasSizes (records.PutCard how ports eid next_number next_note notes) = length notes ≤ 65535
HasSizes (records.PutProfile installation profile port) =
    (length profile.content.rows ≤ 65535) × (length profile.content.pins ≤ 65535)
    × AllByRecursion (λ row. length row.body ≡ row.head.size) profile.content.rows
HasSizes (records.Content profile its) = ⊤
HasSizes (records.Bind profile port displaced) = ⊤
HasSizes (records.Unbind profile) = ⊤
HasSizes (records.Gone profiles) = ⊤
HasSizes (records.Name profile nickname) = ⊤
HasSizes (records.NoteGone number) = ⊤
