-- The first record of a card.
use Rattle.std.specs.Prelude.{◌≡◌, Option, Some, None}
use Rattle.record_codec.specs.Apply.{apply}
use Rattle.record_codec.specs.IsDurable.{IsDurable}
use Rattle.record_codec.specs.Takes.{IsCard}
use Rattle.record_codec.specs.declared.durable.Durable.{Durable}
use Rattle.record_codec.specs.declared.record.Record.{Record}
use Rattle.record_codec.specs.declared.record.Record.TheVariants.{PutCard, PutProfile, Content}
use Rattle.record_codec.specs.declared.record.Record.TheVariants.{Bind, Unbind, Gone, Name}
use Rattle.record_codec.specs.declared.record.Record.TheVariants.{NoteGone}

-- a card may begin with the record
abbrev pub Begins : Record → Type 0
Begins (PutCard mode ports eid next_number next_note notes) = IsCard mode ports next_note notes
Begins (PutProfile installation profile port) = ⊥
Begins (Content profile change) = ⊥
Begins (Bind profile port displaced) = ⊥
Begins (Unbind profile) = ⊥
Begins (Gone profiles) = ⊥
Begins (Name profile nickname) = ⊥
Begins (NoteGone number) = ⊥

-- this is what a card holds after its first record, whatever was held before
pub record IsBegun (entry : Record) (held : Durable) : Type 0 where
  pub begins : Begins entry
  pub after : (before : Durable) → held ≡ apply before entry
  pub valid : IsDurable held

-- what a card holds after its first record, and none where it can't begin so
abbrev pub HasBegun : Record → Option Durable → Type 0
HasBegun entry None = ¬ Begins entry
HasBegun entry (Some held) = IsBegun entry held
