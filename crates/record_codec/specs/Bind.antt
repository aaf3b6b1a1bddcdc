-- A profile on a port, and the one that stood there on none.
use Rattle.std.specs.Prelude.{ℕ, ◌≡◌, Option, Some, option_and_then, slice_get}
use Rattle.notify_list.specs.declared.note.Operation.TheVariants.{Enable, Disable}
use Rattle.port_table.specs.Ports.{StandsNowhere, bound}
use Rattle.record_codec.specs.Heads.{IsHeld, head_of}
use Rattle.record_codec.specs.Noted.{noted_where}
use Rattle.record_codec.specs.declared.durable.Durable.{Durable}

-- the profile stands on the port; the disabling of the displaced one is notified first, and then
-- its own enabling
abbrev pub with_binding : ℕ → ℕ → Option ℕ → Durable → Durable
with_binding profile port displaced durable = record durable {
  heads = record durable.heads {
    ports = bound profile port durable.heads.ports;
    notes = noted_where Enable (head_of profile durable.heads.profiles)
        (noted_where Disable (option_and_then
        (λ number. head_of number durable.heads.profiles) displaced)
        durable.heads.notes);
  };
}

-- the profile is held and stands on no port, and the displaced one is exactly what the port holds
pub record MayBindTo (durable : Durable) (profile port : ℕ) (displaced : Option ℕ) : Type 0 where
  pub held : IsHeld profile durable.heads.profiles
  pub nowhere : StandsNowhere durable.heads.ports profile
  pub there : slice_get durable.heads.ports.on port ≡ Some displaced
