-- The memory that a record needs.
use Rattle.std.specs.Prelude.{ℕ, ◌≡◌, ◌≤◌, ◌+◌, List, [], length, replicate, vec_capacity}
use Rattle.std.specs.Prelude.{IsSomeAnd, ⊤}
use Rattle.file_rows.specs.Change.{resized}
use Rattle.file_rows.specs.Content.{file_at}
use Rattle.file_rows.specs.declared.change.Change.{Change}
use Rattle.file_rows.specs.declared.change.Change.TheVariants.{WriteRange, WriteRecord, PinSet}
use Rattle.file_rows.specs.declared.change.Change.TheVariants.{FileAdd, FileGone, FileState}
use Rattle.file_rows.specs.declared.change.Change.TheVariants.{FileSize}
use Rattle.file_rows.specs.declared.content.Content as content
use Rattle.file_rows.specs.declared.head.FileHead.{FileHead}
use Rattle.record_codec.specs.Heads.{held_content}
use Rattle.record_codec.specs.declared.durable.Durable.{Durable}
use Rattle.record_codec.specs.declared.record.Record.{Record}
use Rattle.record_codec.specs.declared.record.Record.TheVariants.{PutCard, PutProfile, Content}
use Rattle.record_codec.specs.declared.record.Record.TheVariants.{Bind, Unbind, Gone, Name}
use Rattle.record_codec.specs.declared.record.Record.TheVariants.{NoteGone}
use Rattle.record_codec.specs.declared.room.Kept.{Kept}
use Rattle.record_codec.specs.declared.room.Kept.TheVariants.{Nothing, Profile, File, Body}
use Rattle.record_codec.specs.declared.room.Room.{Room}

-- the content, and a list with room for it behind so many others
abbrev pub KeepsProfile : ℕ → content.Content → Kept → Type 0
KeepsProfile count its Nothing = ⊥
KeepsProfile count its (Profile kept contents) =
    (kept ≡ its) × (contents.items ≡ []) × (count + 1 ≤ vec_capacity contents)
KeepsProfile count its (File body rows) = ⊥
KeepsProfile count its (Body body) = ⊥

-- the body of a new file, and a list with room for it behind so many others
abbrev pub KeepsFile : ℕ → FileHead → Kept → Type 0
KeepsFile count head Nothing = ⊥
KeepsFile count head (Profile kept contents) = ⊥
KeepsFile count head (File body rows) =
    (body.items ≡ replicate head.size 255) × (rows.items ≡ [])
    × (count + 1 ≤ vec_capacity rows)
KeepsFile count head (Body body) = ⊥

-- a body with its new size
abbrev pub KeepsBody : ℕ → List ℕ → Kept → Type 0
KeepsBody size was Nothing = ⊥
KeepsBody size was (Profile kept contents) = ⊥
KeepsBody size was (File body rows) = ⊥
KeepsBody size was (Body body) = body.items ≡ resized size was

-- the memory that a change needs is there
abbrev pub KeepsChange : content.Content → Change → Kept → Type 0
KeepsChange its (WriteRange path offset bytes) kept = ⊤
KeepsChange its (WriteRecord path number bytes) kept = ⊤
KeepsChange its (PinSet set) kept = ⊤
KeepsChange its (FileAdd head) kept = KeepsFile (length its.rows) head kept
KeepsChange its (FileGone path) kept = ⊤
KeepsChange its (FileState path life) kept = ⊤
KeepsChange its (FileSize path size) kept =
    IsSomeAnd (file_at path its.rows) (λ row. KeepsBody size row.body kept)

-- the memory that the record needs is kept
abbrev pub IsKeptFor : Durable → Record → Kept → Type 0
IsKeptFor durable (PutCard mode ports eid next_number next_note notes) kept = ⊤
IsKeptFor durable (PutProfile installation profile port) kept =
    KeepsProfile (length durable.contents) profile.content kept
IsKeptFor durable (Content profile change) kept =
    IsSomeAnd (held_content profile durable) (λ its. KeepsChange its change kept)
IsKeptFor durable (Bind profile port displaced) kept = ⊤
IsKeptFor durable (Unbind profile) kept = ⊤
IsKeptFor durable (Gone profiles) kept = ⊤
IsKeptFor durable (Name profile nickname) kept = ⊤
IsKeptFor durable (NoteGone number) kept = ⊤

abbrev pub IsRoomFor : Durable → Record → Room → Type 0
IsRoomFor durable entry room = IsKeptFor durable entry room.kept

-- a new file and a new size need memory
abbrev pub GrowsContent : Change → Type 0
GrowsContent (WriteRange path offset bytes) = ⊥
GrowsContent (WriteRecord path number bytes) = ⊥
GrowsContent (PinSet set) = ⊥
GrowsContent (FileAdd head) = ⊤
GrowsContent (FileGone path) = ⊥
GrowsContent (FileState path life) = ⊥
GrowsContent (FileSize path size) = ⊤

-- one more profile, a new file and a new size need memory
abbrev pub NeedsMemory : Record → Type 0
NeedsMemory (PutCard mode ports eid next_number next_note notes) = ⊥
NeedsMemory (PutProfile installation profile port) = ⊤
NeedsMemory (Content profile change) = GrowsContent change
NeedsMemory (Bind profile port displaced) = ⊥
NeedsMemory (Unbind profile) = ⊥
NeedsMemory (Gone profiles) = ⊥
NeedsMemory (Name profile nickname) = ⊥
NeedsMemory (NoteGone number) = ⊥

-- the record has lists that take memory: a card's notifications, or a profile's files and PINs
abbrev pub HasLists : Record → Type 0
HasLists (PutCard mode ports eid next_number next_note notes) = ⊤
HasLists (PutProfile installation profile port) = ⊤
HasLists (Content profile change) = ⊥
HasLists (Bind profile port displaced) = ⊥
HasLists (Unbind profile) = ⊥
HasLists (Gone profiles) = ⊥
HasLists (Name profile nickname) = ⊥
HasLists (NoteGone number) = ⊥
