-- What a record leaves alone.
use Rattle.std.specs.Prelude.{ℕ, ◌≡◌, ◌⊎◌, Some, true, ⊤}
use Rattle.notify_list.specs.declared.note.Note.{Note}
use Rattle.record_codec.specs.Gone.{is_among}
use Rattle.record_codec.specs.declared.record.Record.{Record}
use Rattle.record_codec.specs.declared.record.Record.TheVariants.{PutCard, PutProfile, Content}
use Rattle.record_codec.specs.declared.record.Record.TheVariants.{Bind, Unbind, Gone, Name}
use Rattle.record_codec.specs.declared.record.Record.TheVariants.{NoteGone}

-- the content of that profile is what the record puts, changes or takes away
abbrev pub TouchesContent : Record → ℕ → Type 0
TouchesContent (PutCard mode ports eid next_number next_note notes) profile = ⊤
TouchesContent (PutProfile installation put port) profile = put.head.number ≡ profile
TouchesContent (Content changed change) profile = changed ≡ profile
TouchesContent (Bind bound port displaced) profile = ⊥
TouchesContent (Unbind bound) profile = ⊥
TouchesContent (Gone profiles) profile = is_among profiles profile ≡ true
TouchesContent (Name named nickname) profile = ⊥
TouchesContent (NoteGone number) profile = ⊥

-- the record puts that profile on a port or takes it from one
abbrev pub TouchesPort : Record → ℕ → Type 0
TouchesPort (PutCard mode ports eid next_number next_note notes) profile = ⊤
TouchesPort (PutProfile installation put port) profile = put.head.number ≡ profile
TouchesPort (Content changed change) profile = ⊥
TouchesPort (Bind bound port other) profile = (bound ≡ profile) ⊎ (other ≡ Some profile)
TouchesPort (Unbind bound) profile = bound ≡ profile
TouchesPort (Gone profiles) profile = is_among profiles profile ≡ true
TouchesPort (Name named nickname) profile = ⊥
TouchesPort (NoteGone number) profile = ⊥

-- the head of that profile is what the record puts, names or takes away
abbrev pub TouchesHead : Record → ℕ → Type 0
TouchesHead (PutCard mode ports eid next_number next_note notes) profile = ⊤
TouchesHead (PutProfile installation put port) profile = put.head.number ≡ profile
TouchesHead (Content changed change) profile = ⊥
TouchesHead (Bind bound port displaced) profile = ⊥
TouchesHead (Unbind bound) profile = ⊥
TouchesHead (Gone profiles) profile = is_among profiles profile ≡ true
TouchesHead (Name named nickname) profile = named ≡ profile
TouchesHead (NoteGone number) profile = ⊥

-- the record takes that notification away
abbrev pub TakesNote : Record → Note → Type 0
TakesNote (PutCard mode ports eid next_number next_note notes) note = ⊤
TakesNote (PutProfile installation put port) note = ⊥
TakesNote (Content changed change) note = ⊥
TakesNote (Bind bound port displaced) note = ⊥
TakesNote (Unbind bound) note = ⊥
TakesNote (Gone profiles) note = ⊥
TakesNote (Name named nickname) note = ⊥
TakesNote (NoteGone number) note = note.number ≡ number
