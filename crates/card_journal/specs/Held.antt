-- What a card holds in memory, and the memory that a record needs where each content has room for a
-- quota.
use Rattle.std.specs.Prelude.{◌≡◌, List, Option, IsSomeAnd, ⊤}
use Rattle.file_rows.specs.declared.content.Content as content
use Rattle.record_codec.specs.declared.durable.Durable.{Durable}
use Rattle.record_codec.specs.declared.durable.Heads.{Heads}
use Rattle.record_codec.specs.declared.record.Record.{Record}
use Rattle.record_codec.specs.declared.record.Record.TheVariants.{PutCard, PutProfile, Content}
use Rattle.record_codec.specs.declared.record.Record.TheVariants.{Bind, Unbind, Gone, Name}
use Rattle.record_codec.specs.declared.record.Record.TheVariants.{NoteGone}

-- these heads and contents
abbrev pub held_in : Heads → List content.Content → Durable
held_in heads contents = record { heads = heads; contents = contents }

-- the record is that of one more profile, which alone needs memory
abbrev pub PutsProfile : Record → Type 0
PutsProfile (PutCard mode ports eid next_number next_note notes) = ⊥
PutsProfile (PutProfile installation profile port) = ⊤
PutsProfile (Content profile change) = ⊥
PutsProfile (Bind profile port displaced) = ⊥
PutsProfile (Unbind profile) = ⊥
PutsProfile (Gone profiles) = ⊥
PutsProfile (Name profile nickname) = ⊥
PutsProfile (NoteGone number) = ⊥

-- for one more profile its content is there
abbrev pub RoomIsFor : Record → Option content.Content → Type 0
RoomIsFor (PutCard mode ports eid next_number next_note notes) room = ⊤
RoomIsFor (PutProfile installation profile port) room =
    IsSomeAnd room (λ its. its ≡ profile.content)
RoomIsFor (Content profile change) room = ⊤
RoomIsFor (Bind profile port displaced) room = ⊤
RoomIsFor (Unbind profile) room = ⊤
RoomIsFor (Gone profiles) room = ⊤
RoomIsFor (Name profile nickname) room = ⊤
RoomIsFor (NoteGone number) room = ⊤
