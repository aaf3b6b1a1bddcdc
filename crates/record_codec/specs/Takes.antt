-- What each kind of record needs of what a card holds, so that the card takes it.
use Rattle.std.specs.Prelude.{ℕ, Bool, true, false, ◌≡◌, ◌≢◌, ◌≤◌, ◌<◌, ◌+◌, List, length, Option}
use Rattle.std.specs.Prelude.{Some, None, option_and_then, IfSome, slice_get, ⊤}
use Rattle.std.specs.List.{AllByRecursion}
use Rattle.file_rows.specs.Content.{IsValid}
use Rattle.notify_list.specs.Notes.{HasNoteRoom}
use Rattle.notify_list.specs.declared.note.Note.{Note}
use Rattle.notify_list.specs.declared.note.Operation.TheVariants.{Install, Enable, Disable, Delete}
use Rattle.plain_lists.specs.EachTwo.{EachTwo}
use Rattle.port_table.specs.Ports.{HasProfiles, StandsNowhere, StandsOn}
use Rattle.port_table.specs.declared.port_mode.PortMode.{PortMode}
use Rattle.record_codec.specs.Content.{MayChange}
use Rattle.record_codec.specs.Heads.{IsHeld, head_of}
use Rattle.record_codec.specs.IsDurable.{AreNotes, IsHead, fewest_ports}
use Rattle.record_codec.specs.Noted.{count_of, count_of_each, count_where}
use Rattle.record_codec.specs.declared.durable.Durable.{Durable}
use Rattle.record_codec.specs.declared.durable.Heads.{Heads}
use Rattle.record_codec.specs.declared.profile.ProfileHead.{ProfileHead}
use Rattle.record_codec.specs.declared.record.Record.{Record}
use Rattle.record_codec.specs.declared.record.Record.TheVariants.{PutCard, PutProfile, Content}
use Rattle.record_codec.specs.declared.record.Record.TheVariants.{Bind, Unbind, Gone, Name}
use Rattle.record_codec.specs.declared.record.Record.TheVariants.{NoteGone}

-- a card may have so many ports, and these notifications
pub record IsCard (mode : PortMode) (ports next_note : ℕ) (notes : List Note) : Type 0 where
  pub some : fewest_ports mode ≤ ports
  pub few : ports ≤ 8
  pub pending : AreNotes (record { list = notes; next = next_note })

-- the port holds no profile, and is one on which a profile may stand
pub record IsFreePort (heads : Heads) (port : ℕ) : Type 0 where
  pub free : slice_get heads.ports.on port ≡ Some None
  pub place : HasProfiles heads.ports.mode port

-- One more profile has a place: it has a head's form, and a number and an ICCID of its own; an
-- installation has the next number and room for its notifications, and a copy had its number
-- before; its port is free.
pub record IsNewProfile (heads : Heads) (installation : Bool) (head : ProfileHead)
    (port : Option ℕ) : Type 0 where
  pub few : length heads.profiles < 16
  pub form : IsHead head
  pub new : ¬ IsHeld head.number heads.profiles
  pub iccid : AllByRecursion (λ other. other.iccid ≢ head.iccid) heads.profiles
  pub next : installation ≡ true → head.number ≡ heads.next_number
  pub before : installation ≡ false → head.number < heads.next_number
  pub free : IfSome port (λ port. IsFreePort heads port)
  pub room : installation ≡ true → HasNoteRoom heads.notes (count_of Install head)

-- the profile is held and stands on no port, one may stand on this port, and the displaced one is
-- exactly what the port holds; there is room for the notifications of both
pub record IsBinding (heads : Heads) (profile port : ℕ) (displaced : Option ℕ) : Type 0 where
  pub held : IsHeld profile heads.profiles
  pub nowhere : StandsNowhere heads.ports profile
  pub there : slice_get heads.ports.on port ≡ Some displaced
  pub place : HasProfiles heads.ports.mode port
  pub room : HasNoteRoom heads.notes
      (count_where Disable (option_and_then (λ number. head_of number heads.profiles) displaced)
      + count_where Enable (head_of profile heads.profiles))

-- the profile is held and stands on a port, and there is room for its notifications
pub record IsUnbinding (heads : Heads) (profile : ℕ) : Type 0 where
  pub held : IsHeld profile heads.profiles
  pub bound : (port : ℕ) × StandsOn heads.ports profile port
  pub room : HasNoteRoom heads.notes (count_where Disable (head_of profile heads.profiles))

-- the profiles differ and are held, and there is room for their notifications
pub record AreGoing (heads : Heads) (numbers : List ℕ) : Type 0 where
  pub differ : EachTwo (λ one other. one ≢ other) numbers
  pub held : AllByRecursion (λ number. IsHeld number heads.profiles) numbers
  pub room : HasNoteRoom heads.notes (count_of_each Delete numbers heads.profiles)

-- what a record needs of all that isn't content
abbrev pub TakesHeads : Heads → Record → Type 0
TakesHeads heads (PutCard mode ports eid next_number next_note notes) =
    IsCard mode ports next_note notes
TakesHeads heads (PutProfile installation profile port) =
    IsNewProfile heads installation profile.head port
TakesHeads heads (Content profile change) = ⊤
TakesHeads heads (Bind profile port displaced) = IsBinding heads profile port displaced
TakesHeads heads (Unbind profile) = IsUnbinding heads profile
TakesHeads heads (Gone profiles) = AreGoing heads profiles
TakesHeads heads (Name profile nickname) =
    IsHeld profile heads.profiles × (length nickname ≤ 64)
TakesHeads heads (NoteGone number) = ⊤

-- what it needs of the contents: what is put is valid, and a change fits
abbrev pub TakesContent : Durable → Record → Type 0
TakesContent durable (PutCard mode ports eid next_number next_note notes) = ⊤
TakesContent durable (PutProfile installation profile port) = IsValid profile.content
TakesContent durable (Content profile change) = MayChange durable profile change
TakesContent durable (Bind profile port displaced) = ⊤
TakesContent durable (Unbind profile) = ⊤
TakesContent durable (Gone profiles) = ⊤
TakesContent durable (Name profile nickname) = ⊤
TakesContent durable (NoteGone number) = ⊤

-- what each kind of record needs
pub record TakesRecord (durable : Durable) (entry : Record) : Type 0 where
  pub heads : TakesHeads durable.heads entry
  pub content : TakesContent durable entry
