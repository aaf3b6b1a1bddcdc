-- Records as bytes, one line a kind.
use Rattle.std.specs.Prelude.{ℕ, List}
use Rattle.file_rows.specs.declared.change.Change.{Change}
use Rattle.file_rows.specs.declared.change.Change.TheVariants.{WriteRange, WriteRecord, PinSet}
use Rattle.file_rows.specs.declared.change.Change.TheVariants.{FileAdd, FileGone, FileState}
use Rattle.file_rows.specs.declared.change.Change.TheVariants.{FileSize}
use Rattle.file_rows.specs.declared.head.FileHead.{FileHead}
use Rattle.file_rows.specs.declared.head.Kind.{Kind}
use Rattle.file_rows.specs.declared.head.Kind.TheVariants.{Master, Directory, Application}
use Rattle.file_rows.specs.declared.head.Kind.TheVariants.{Transparent, Linear, Cyclic}
use Rattle.file_rows.specs.declared.head.Life.{Life}
use Rattle.file_rows.specs.declared.head.Life.TheVariants.{Active, Deactivated, Terminated}
use Rattle.file_rows.specs.declared.head.Rule.{Rule}
use Rattle.file_rows.specs.declared.pin.PinRow.{PinRow}
use Rattle.file_rows.specs.declared.pin.Puk.{Puk}
use Rattle.file_rows.specs.declared.row.FileRow.{FileRow}
use Rattle.notify_list.specs.declared.note.Note.{Note}
use Rattle.notify_list.specs.declared.note.Operation.{Operation}
use Rattle.notify_list.specs.declared.note.Operation.TheVariants.{Install, Enable, Disable, Delete}
use Rattle.port_table.specs.declared.port_mode.PortMode.{PortMode}
use Rattle.port_table.specs.declared.port_mode.PortMode.TheVariants.{A1, A2, B}
use Rattle.record_codec.specs.Fields.{◌&◌, byte, flag, list, number2, number4, number8, option}
use Rattle.record_codec.specs.Fields.{path, plain, string}
use Rattle.record_codec.specs.declared.profile.NoteTarget.{NoteTarget}
use Rattle.record_codec.specs.declared.profile.ProfileHead.{ProfileHead}
use Rattle.record_codec.specs.declared.record.Record.{Record}
use Rattle.record_codec.specs.declared.record.Record.TheVariants as records

abbrev pub mode_byte : PortMode → ℕ
mode_byte A1 = 0
mode_byte A2 = 1
mode_byte B = 2

abbrev pub mode : PortMode → List ℕ
mode value = byte (mode_byte value)

abbrev pub operation_byte : Operation → ℕ
operation_byte Install = 0
operation_byte Enable = 1
operation_byte Disable = 2
operation_byte Delete = 3

abbrev pub operation : Operation → List ℕ
operation value = byte (operation_byte value)

abbrev pub kind_byte : Kind → ℕ
kind_byte Master = 0
kind_byte Directory = 1
kind_byte Application = 2
kind_byte Transparent = 3
kind_byte Linear = 4
kind_byte Cyclic = 5

abbrev pub kind : Kind → List ℕ
kind value = byte (kind_byte value)

abbrev pub coded_life : Life → ℕ
coded_life Active = 0
coded_life Deactivated = 1
coded_life Terminated = 2

abbrev pub life : Life → List ℕ
life value = byte (coded_life value)

abbrev pub rule : Rule → List ℕ
rule r = number2 r.file & byte r.row

-- what a file has beside its size
abbrev pub form : FileHead → List ℕ
form head =
    path head.path & kind head.kind & life head.life & byte head.sfi & string head.name
    & option rule head.rule
    & byte head.record_len

abbrev pub file_head : FileHead → List ℕ
file_head head = form head & number2 head.size

abbrev pub file : FileRow → List ℕ
file row = form row.head & string row.body

abbrev pub puk : Puk → List ℕ
puk p = plain p.value & byte p.max & byte p.left

abbrev pub pin : PinRow → List ℕ
pin row =
    byte row.number & path row.home & byte row.key & plain row.value & byte row.max & byte row.left
    & flag row.enabled
    & option puk row.puk

abbrev pub coded_change : Change → List ℕ
coded_change (WriteRange at offset bytes) = byte 0 & path at & number2 offset & string bytes
coded_change (WriteRecord at number bytes) = byte 1 & path at & byte number & string bytes
coded_change (PinSet row) = byte 2 & pin row
coded_change (FileAdd head) = byte 3 & file_head head
coded_change (FileGone at) = byte 4 & path at
coded_change (FileState at state) = byte 5 & path at & life state
coded_change (FileSize at size) = byte 6 & path at & number2 size

abbrev pub note : Note → List ℕ
note n = number4 n.number & operation n.operation & plain n.iccid & string n.address

abbrev pub target : NoteTarget → List ℕ
target t = byte t.operations & string t.address

abbrev pub profile_head : ProfileHead → List ℕ
profile_head head =
    number2 head.number & plain head.iccid & string head.provider & string head.name
    & string head.nickname
    & byte head.class
    & byte head.policy
    & list target head.targets

-- the coding of a record
abbrev pub spelling : Record → List ℕ
spelling (records.PutCard how ports eid next_number next_note notes) =
    byte 1 & mode how & byte ports & plain eid & number4 next_number & number8 next_note
    & list note notes
spelling (records.PutProfile installation profile port) =
    byte 2 & flag installation & profile_head profile.head & option byte port
    & list file profile.content.rows
    & list pin profile.content.pins
spelling (records.Content profile its) = byte 3 & number2 profile & coded_change its
spelling (records.Bind profile port displaced) =
    byte 4 & number2 profile & byte port & option number2 displaced
spelling (records.Unbind profile) = byte 5 & number2 profile
spelling (records.Gone profiles) = byte 6 & list number2 profiles
spelling (records.Name profile nickname) = byte 7 & number2 profile & string nickname
spelling (records.NoteGone number) = byte 8 & number4 number
