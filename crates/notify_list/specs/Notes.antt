use Rattle.std.specs.Prelude.{ℕ, ◌≡◌, ◌≤◌, ◌<◌, ◌+◌, ◌⊎◌, ◌==◌, not, filter, Any, List, [], ◌∷◌}
use Rattle.std.specs.Prelude.{◌++◌, length}
use Rattle.std.specs.List.{AllByRecursion}
use Rattle.plain_lists.specs.EachTwo.{EachTwo}
use Rattle.notify_list.specs.declared.note.Note.{Note}
use Rattle.notify_list.specs.declared.note.Operation.{Operation}

-- the pending notifications, and the sequence number of the next one
pub record NoteList : Type 0 where
  pub list : List Note
  pub next : ℕ

-- so many notifications more find room: no more than 256 would be pending, and no sequence number
-- would pass 4,294,967,295
pub record HasNoteRoom (notes : NoteList) (more : ℕ) : Type 0 where
  pub pending : length notes.list + more ≤ 256
  pub numbers : (more ≡ 0) ⊎ (notes.next + more ≤ 4294967295 + 1)

-- the notifications with one more, which has the next number
abbrev pub with_note : Operation → List ℕ → List ℕ → NoteList → NoteList
with_note operation iccid address notes = record {
  list = notes.list ++ record {
    number = notes.next;
    operation = operation;
    iccid = iccid;
    address = address;
  } ∷ [];
  next = notes.next + 1;
}

-- the notifications without that of a number
abbrev pub without : ℕ → NoteList → NoteList
without number notes =
    record notes { list = filter (λ note. not (note.number == number)) notes.list }

-- a notification of that number is pending
abbrev pub IsPending : ℕ → NoteList → Type 0
IsPending number notes = Any (λ note. note.number ≡ number) notes.list

-- the notifications stand by number, and each number was given before the next one
pub record AreNumbered (notes : NoteList) : Type 0 where
  pub ascending : EachTwo (λ earlier later. earlier.number < later.number) notes.list
  pub given : AllByRecursion (λ note. note.number < notes.next) notes.list
  pub next : 1 ≤ notes.next
