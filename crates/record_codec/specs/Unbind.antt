-- A profile on no port.
use Rattle.std.specs.Prelude.{ℕ}
use Rattle.notify_list.specs.declared.note.Operation.TheVariants.{Disable}
use Rattle.port_table.specs.Ports.{StandsOn, unbound}
use Rattle.record_codec.specs.Heads.{IsHeld, head_of}
use Rattle.record_codec.specs.Noted.{noted_where}
use Rattle.record_codec.specs.declared.durable.Durable.{Durable}

-- the profile stands on no port, and its disabling is notified
abbrev pub without_binding : ℕ → Durable → Durable
without_binding profile durable = record durable {
  heads = record durable.heads {
    ports = unbound profile durable.heads.ports;
    notes =
        noted_where Disable (head_of profile durable.heads.profiles) durable.heads.notes;
  };
}

-- the profile is held and stands on a port
pub record MayUnbind (durable : Durable) (profile : ℕ) : Type 0 where
  pub held : IsHeld profile durable.heads.profiles
  pub bound : (port : ℕ) × StandsOn durable.heads.ports profile port
