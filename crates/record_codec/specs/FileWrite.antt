-- A write into a file, and the record that it is the change of.
use Rattle.std.specs.Prelude.{ℕ, List, ⊤}
use Rattle.file_rows.specs.declared.change.Change.{Change}
use Rattle.file_rows.specs.declared.change.Change.TheVariants.{WriteRange, WriteRecord, PinSet}
use Rattle.file_rows.specs.declared.change.Change.TheVariants.{FileAdd, FileGone, FileState}
use Rattle.file_rows.specs.declared.change.Change.TheVariants.{FileSize}
use Rattle.record_codec.specs.declared.file_write.FileWrite.{FileWrite}
use Rattle.record_codec.specs.declared.file_write.WritePlace.{WritePlace}
use Rattle.record_codec.specs.declared.file_write.WritePlace.TheVariants.{Offset, Number}
use Rattle.record_codec.specs.declared.record.Record.{Record}
use Rattle.record_codec.specs.declared.record.Record.TheVariants as records

-- these bytes written at a place in the file of a path
abbrev pub write_at : List ℕ → WritePlace → List ℕ → Change
write_at path (Offset offset) bytes = WriteRange path offset bytes
write_at path (Number number) bytes = WriteRecord path number bytes

-- the change that it is
abbrev pub change_of_write : FileWrite → Change
change_of_write write = write_at write.path write.place write.bytes.now

-- the record of that change
abbrev pub record_of_write : FileWrite → Record
record_of_write write = records.Content write.profile (change_of_write write)

-- the change writes into a file
abbrev pub IsWrite : Change → Type 0
IsWrite (WriteRange path offset bytes) = ⊤
IsWrite (WriteRecord path number bytes) = ⊤
IsWrite (PinSet row) = ⊥
IsWrite (FileAdd head) = ⊥
IsWrite (FileGone path) = ⊥
IsWrite (FileState path life) = ⊥
IsWrite (FileSize path size) = ⊥

-- the record is that of a write into a file
abbrev pub WritesFile : Record → Type 0
WritesFile (records.PutCard mode ports eid next_number next_note notes) = ⊥
WritesFile (records.PutProfile installation profile port) = ⊥
WritesFile (records.Content profile change) = IsWrite change
WritesFile (records.Bind profile port displaced) = ⊥
WritesFile (records.Unbind profile) = ⊥
WritesFile (records.Gone profiles) = ⊥
WritesFile (records.Name profile nickname) = ⊥
WritesFile (records.NoteGone number) = ⊥
