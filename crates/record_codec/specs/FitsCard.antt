-- Which records a card takes.
use Rattle.std.specs.Prelude.{⊤}
use Rattle.record_codec.specs.Apply.{apply}
use Rattle.record_codec.specs.Bind.{MayBindTo}
use Rattle.record_codec.specs.Content.{MayChange}
use Rattle.record_codec.specs.Gone.{MayGo}
use Rattle.record_codec.specs.Heads.{IsHeld}
use Rattle.record_codec.specs.IsDurable.{IsDurable}
use Rattle.record_codec.specs.PutProfile.{MayPutProfile}
use Rattle.record_codec.specs.Unbind.{MayUnbind}
use Rattle.record_codec.specs.declared.durable.Durable.{Durable}
use Rattle.record_codec.specs.declared.record.Record.{Record}
use Rattle.record_codec.specs.declared.record.Record.TheVariants.{PutCard, PutProfile, Content}
use Rattle.record_codec.specs.declared.record.Record.TheVariants.{Bind, Unbind, Gone, Name}
use Rattle.record_codec.specs.declared.record.Record.TheVariants.{NoteGone}

-- the card has what the record names, and hasn't what it puts
abbrev pub NamesWhatIsHeld : Durable → Record → Type 0
NamesWhatIsHeld durable (PutCard mode ports eid next_number next_note notes) = ⊤
NamesWhatIsHeld durable (PutProfile installation profile port) =
    MayPutProfile durable installation profile port
NamesWhatIsHeld durable (Content profile change) = MayChange durable profile change
NamesWhatIsHeld durable (Bind profile port displaced) = MayBindTo durable profile port displaced
NamesWhatIsHeld durable (Unbind profile) = MayUnbind durable profile
NamesWhatIsHeld durable (Gone profiles) = MayGo durable profiles
NamesWhatIsHeld durable (Name profile nickname) = IsHeld profile durable.heads.profiles
NamesWhatIsHeld durable (NoteGone number) = ⊤

-- the card takes the record: it names what is there, and what the card holds after it is what one
-- may hold
pub record FitsCard (durable : Durable) (entry : Record) : Type 0 where
  pub place : NamesWhatIsHeld durable entry
  pub after : IsDurable (apply durable entry)
