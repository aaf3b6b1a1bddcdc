-- One more profile.
use Rattle.std.specs.Prelude.{ℕ, Bool, true, ◌≡◌, ◌+◌, if◌then◌else◌, ◌++◌, ◌∷◌, [], Option, Some}
use Rattle.std.specs.Prelude.{None, IfSome, slice_get}
use Rattle.notify_list.specs.declared.note.Operation.TheVariants.{Install}
use Rattle.port_table.specs.Ports.{bound}
use Rattle.port_table.specs.declared.ports.Ports.{Ports}
use Rattle.record_codec.specs.Heads.{IsHeld}
use Rattle.record_codec.specs.Noted.{noted}
use Rattle.record_codec.specs.declared.durable.Durable.{Durable}
use Rattle.record_codec.specs.declared.profile.Profile.{Profile}

-- the ports with the profile on its own, where it has one
abbrev pub bound_where : ℕ → Option ℕ → Ports → Ports
bound_where number None ports = ports
bound_where number (Some port) ports = bound number port ports

-- the card with one more profile behind the others; its installation raises the next number and is
-- notified
abbrev pub with_profile : Bool → Profile → Option ℕ → Durable → Durable
with_profile installation profile port durable = record {
  heads = record durable.heads {
    ports = bound_where profile.head.number port durable.heads.ports;
    next_number = durable.heads.next_number + (if installation then 1 else 0);
    profiles = durable.heads.profiles ++ profile.head ∷ [];
    notes = if installation then noted Install profile.head durable.heads.notes
        else durable.heads.notes;
  };
  contents = durable.contents ++ profile.content ∷ [];
}

-- the card may hold it too: its number isn't held, an installation has the next one, and its port
-- holds no profile
pub record MayPutProfile (durable : Durable) (installation : Bool) (profile : Profile)
    (port : Option ℕ) : Type 0 where
  pub new : ¬ IsHeld profile.head.number durable.heads.profiles
  pub next : installation ≡ true → profile.head.number ≡ durable.heads.next_number
  pub free : IfSome port (λ port. slice_get durable.heads.ports.on port ≡ Some None)
