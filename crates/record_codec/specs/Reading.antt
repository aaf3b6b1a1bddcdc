-- Reading from left to right: a value and the bytes behind it, or none.
use Rattle.std.specs.Prelude.{ℕ, zero, suc, Bool, true, false, List, [], ◌∷◌, length, take, drop}
use Rattle.std.specs.Prelude.{nat_lt, if◌then◌else◌, Option, Some, None}
use Rattle.std.specs.Int.{Width, w16, w32, w64, byte_len, from_be_bytes}
use Rattle.file_rows.specs.declared.change.Change.{Change}
use Rattle.file_rows.specs.declared.change.Change.TheVariants.{WriteRange, WriteRecord, PinSet}
use Rattle.file_rows.specs.declared.change.Change.TheVariants.{FileAdd, FileGone, FileState}
use Rattle.file_rows.specs.declared.change.Change.TheVariants.{FileSize}
use Rattle.file_rows.specs.declared.head.FileHead.{FileHead}
use Rattle.file_rows.specs.declared.head.Kind.{Kind}
use Rattle.file_rows.specs.declared.head.Kind.TheVariants.{Master, Directory, Application}
use Rattle.file_rows.specs.declared.head.Kind.TheVariants.{Transparent, Linear, Cyclic}
use Rattle.file_rows.specs.declared.head.Life.{Life}
use Rattle.file_rows.specs.declared.head.Life.TheVariants.{Active, Deactivated, Terminated}
use Rattle.file_rows.specs.declared.head.Rule.{Rule}
use Rattle.file_rows.specs.declared.pin.PinRow.{PinRow}
use Rattle.file_rows.specs.declared.pin.Puk.{Puk}
use Rattle.file_rows.specs.declared.row.FileRow.{FileRow}
use Rattle.notify_list.specs.declared.note.Note.{Note}
use Rattle.notify_list.specs.declared.note.Operation.{Operation}
use Rattle.notify_list.specs.declared.note.Operation.TheVariants.{Install, Enable, Disable, Delete}
use Rattle.port_table.specs.declared.port_mode.PortMode.{PortMode}
use Rattle.port_table.specs.declared.port_mode.PortMode.TheVariants.{A1, A2, B}
use Rattle.record_codec.specs.declared.profile.NoteTarget.{NoteTarget}
use Rattle.record_codec.specs.declared.profile.ProfileHead.{ProfileHead}
use Rattle.record_codec.specs.declared.record.Record.{Record}
use Rattle.record_codec.specs.declared.record.Record.TheVariants as records

-- how a value is read
abbrev pub Reader : Type 0 → Type 0
Reader X = List ℕ → Option (X × List ℕ)

infixl 10 ◌>>=◌
abbrev pub ◌>>=◌ : {X Y : Type 0} → Option X → (X → Option Y) → Option Y
None >>= next = None
(Some x) >>= next = next x

abbrev pub both_at : {X Y : Type 0} → Reader X → Reader Y → Reader (X × Y)
both_at one other bytes = one bytes >>= λ x. other x.1 >>= λ y. Some ((x.0, y.0), y.1)

abbrev pub made_at : {X Y : Type 0} → (X → Y) → Reader X → Reader Y
made_at make read bytes = read bytes >>= λ x. Some (make x.0, x.1)

abbrev pub byte_at : Reader ℕ
byte_at [] = None
byte_at (b ∷ rest) = Some (b, rest)

abbrev pub plain_at : ℕ → Reader (List ℕ)
plain_at count bytes =
    if nat_lt (length bytes) count then None else Some (take count bytes, drop count bytes)

abbrev pub number_at : Width → Reader ℕ
number_at w bytes = made_at (from_be_bytes w) (plain_at (byte_len w)) bytes

abbrev pub where_few : {X : Type 0} → ℕ → ℕ → Option X → Option X
where_few most count read = if nat_lt most count then None else read

unfoldable pub string_at : ℕ → Reader (List ℕ)
string_at most bytes = number_at w16 bytes >>= λ n. where_few most n.0 (plain_at n.0 n.1)

unfoldable pub items_at : {X : Type 0} → Reader X → ℕ → Reader (List X)
items_at read zero bytes = Some ([], bytes)
items_at read (suc n) bytes =
    read bytes >>= λ first. items_at read n first.1 >>= λ others. Some
    (first.0 ∷ others.0, others.1)

unfoldable pub list_at : {X : Type 0} → ℕ → Reader X → Reader (List X)
list_at most read bytes = number_at w16 bytes >>= λ n. where_few most n.0 (items_at read n.0 n.1)

unfoldable pub path_at : Reader (List ℕ)
path_at bytes = byte_at bytes >>= λ n. where_few 4 n.0 (items_at (number_at w16) n.0 n.1)

unfoldable pub option_at : {X : Type 0} → Reader X → Reader (Option X)
option_at read [] = None
option_at read (zero ∷ rest) = Some (None, rest)
option_at read (suc zero ∷ rest) = read rest >>= λ x. Some (Some x.0, x.1)
option_at read (suc (suc b) ∷ rest) = None

-- a value that stands for a byte
abbrev pub one_at : {X : Type 0} → (ℕ → Option X) → Reader X
one_at of_byte bytes = byte_at bytes >>= λ b. of_byte b.0 >>= λ x. Some (x, b.1)

abbrev pub flag_of : ℕ → Option Bool
flag_of zero = Some false
flag_of (suc zero) = Some true
flag_of (suc (suc b)) = None

abbrev pub mode_of : ℕ → Option PortMode
mode_of zero = Some A1
mode_of (suc zero) = Some A2
mode_of (suc (suc zero)) = Some B
mode_of (suc (suc (suc b))) = None

abbrev pub operation_of : ℕ → Option Operation
operation_of zero = Some Install
operation_of (suc zero) = Some Enable
operation_of (suc (suc zero)) = Some Disable
operation_of (suc (suc (suc zero))) = Some Delete
operation_of (suc (suc (suc (suc b)))) = None

abbrev pub kind_of : ℕ → Option Kind
kind_of zero = Some Master
kind_of (suc zero) = Some Directory
kind_of (suc (suc zero)) = Some Application
kind_of (suc (suc (suc zero))) = Some Transparent
kind_of (suc (suc (suc (suc zero)))) = Some Linear
kind_of (suc (suc (suc (suc (suc zero))))) = Some Cyclic
kind_of (suc (suc (suc (suc (suc (suc b)))))) = None

abbrev pub life_read : ℕ → Option Life
life_read zero = Some Active
life_read (suc zero) = Some Deactivated
life_read (suc (suc zero)) = Some Terminated
life_read (suc (suc (suc b))) = None

unfoldable pub rule_read : Reader Rule
rule_read bytes = made_at (λ x. record { file = x.0; row = x.1 })
    (both_at (number_at w16) byte_at) bytes

-- what a file has beside its size
abbrev pub Form : Type 0
Form = List ℕ × (Kind × (Life × (ℕ × (List ℕ × (Option Rule × ℕ)))))

unfoldable pub form_at : Reader Form
form_at bytes = both_at path_at (both_at (one_at kind_of)
    (both_at (one_at life_read) (both_at byte_at
    (both_at (string_at 16) (both_at (option_at rule_read) byte_at))))) bytes

abbrev pub parts_of : FileHead → Form
parts_of head = (
  head.path,
  (
    head.kind,
    (head.life, (head.sfi, (head.name, (head.rule, head.record_len)))),
  ),
)

abbrev pub head_from : Form → ℕ → FileHead
head_from form size = record {
  path = form.0;
  kind = form.1.0;
  life = form.1.1.0;
  sfi = form.1.1.1.0;
  name = form.1.1.1.1.0;
  rule = form.1.1.1.1.1.0;
  record_len = form.1.1.1.1.1.1;
  size = size;
}

unfoldable pub file_head_at : Reader FileHead
file_head_at bytes = made_at (λ x. head_from x.0 x.1) (both_at form_at (number_at w16)) bytes

abbrev pub row_from : Form × List ℕ → FileRow
row_from x = record { head = head_from x.0 (length x.1); body = x.1 }

unfoldable pub file_read : Reader FileRow
file_read bytes = made_at row_from (both_at form_at (string_at 65535)) bytes

unfoldable pub puk_at : Reader Puk
puk_at bytes = made_at (λ x. record { value = x.0; max = x.1.0; left = x.1.1 })
    (both_at (plain_at 8) (both_at byte_at byte_at)) bytes

unfoldable pub pin_read : Reader PinRow
pin_read bytes = made_at (λ x. record {
  number = x.0;
  home = x.1.0;
  key = x.1.1.0;
  value = x.1.1.1.0;
  max = x.1.1.1.1.0;
  left = x.1.1.1.1.1.0;
  enabled = x.1.1.1.1.1.1.0;
  puk = x.1.1.1.1.1.1.1;
})
    (both_at byte_at (both_at path_at (both_at byte_at (both_at (plain_at 8) (both_at byte_at
    (both_at byte_at (both_at (one_at flag_of) (option_at puk_at)))))))) bytes

abbrev pub change_of : ℕ → Reader Change
change_of zero bytes = made_at (λ x. WriteRange x.0 x.1.0 x.1.1)
    (both_at path_at (both_at (number_at w16) (string_at 255))) bytes
change_of (suc zero) bytes = made_at (λ x. WriteRecord x.0 x.1.0 x.1.1)
    (both_at path_at (both_at byte_at (string_at 255))) bytes
change_of (suc (suc zero)) bytes = made_at PinSet pin_read bytes
change_of (suc (suc (suc zero))) bytes = made_at FileAdd file_head_at bytes
change_of (suc (suc (suc (suc zero)))) bytes = made_at FileGone path_at bytes
change_of (suc (suc (suc (suc (suc zero))))) bytes =
    made_at (λ x. FileState x.0 x.1) (both_at path_at (one_at life_read)) bytes
change_of (suc (suc (suc (suc (suc (suc zero)))))) bytes =
    made_at (λ x. FileSize x.0 x.1) (both_at path_at (number_at w16)) bytes
change_of (suc (suc (suc (suc (suc (suc (suc b))))))) bytes = None

unfoldable pub change_at : Reader Change
change_at bytes = byte_at bytes >>= λ b. change_of b.0 b.1

unfoldable pub note_at : Reader Note
note_at bytes = made_at (λ x. record {
  number = x.0;
  operation = x.1.0;
  iccid = x.1.1.0;
  address = x.1.1.1;
})
    (both_at (number_at w32) (both_at (one_at operation_of)
    (both_at (plain_at 10) (string_at 64)))) bytes

unfoldable pub target_at : Reader NoteTarget
target_at bytes = made_at (λ x. record { operations = x.0; address = x.1 })
    (both_at byte_at (string_at 64)) bytes

unfoldable pub profile_head_at : Reader ProfileHead
profile_head_at bytes = made_at (λ x. record {
  number = x.0;
  iccid = x.1.0;
  provider = x.1.1.0;
  name = x.1.1.1.0;
  nickname = x.1.1.1.1.0;
  class = x.1.1.1.1.1.0;
  policy = x.1.1.1.1.1.1.0;
  targets = x.1.1.1.1.1.1.1;
})
    (both_at (number_at w16) (both_at (plain_at 10) (both_at (string_at 32) (both_at (string_at 64)
    (both_at (string_at 64) (both_at byte_at (both_at byte_at (list_at 8 target_at)))))))) bytes

abbrev pub record_tagged : ℕ → Reader Record
record_tagged zero bytes = None
record_tagged (suc zero) bytes = made_at
    (λ x. records.PutCard x.0 x.1.0 x.1.1.0 x.1.1.1.0 x.1.1.1.1.0 x.1.1.1.1.1)
    (both_at (one_at mode_of) (both_at byte_at (both_at (plain_at 16) (both_at (number_at w32)
    (both_at (number_at w64) (list_at 65535 note_at)))))) bytes
record_tagged (suc (suc zero)) bytes = made_at
    (λ x. records.PutProfile x.0 (record {
      head = x.1.0;
      content = record { rows = x.1.1.1.0; pins = x.1.1.1.1 };
    }) x.1.1.0)
    (both_at (one_at flag_of) (both_at profile_head_at (both_at (option_at byte_at)
    (both_at (list_at 65535 file_read) (list_at 65535 pin_read))))) bytes
record_tagged (suc (suc (suc zero))) bytes =
    made_at (λ x. records.Content x.0 x.1) (both_at (number_at w16) change_at) bytes
record_tagged (suc (suc (suc (suc zero)))) bytes = made_at (λ x. records.Bind x.0 x.1.0 x.1.1)
    (both_at (number_at w16) (both_at byte_at (option_at (number_at w16)))) bytes
record_tagged (suc (suc (suc (suc (suc zero))))) bytes =
    made_at records.Unbind (number_at w16) bytes
record_tagged (suc (suc (suc (suc (suc (suc zero)))))) bytes =
    made_at records.Gone (list_at 16 (number_at w16)) bytes
record_tagged (suc (suc (suc (suc (suc (suc (suc zero))))))) bytes =
    made_at (λ x. records.Name x.0 x.1) (both_at (number_at w16) (string_at 64)) bytes
record_tagged (suc (suc (suc (suc (suc (suc (suc (suc zero)))))))) bytes =
    made_at records.NoteGone (number_at w32) bytes
record_tagged (suc (suc (suc (suc (suc (suc (suc (suc (suc b))))))))) bytes = None

unfoldable pub record_read : Reader Record
record_read bytes = byte_at bytes >>= λ b. record_tagged b.0 b.1
