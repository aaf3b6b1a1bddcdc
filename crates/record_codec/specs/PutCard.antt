-- A card with no profile.
use Rattle.std.specs.Prelude.{ℕ, List, [], None, replicate}
use Rattle.notify_list.specs.declared.note.Note.{Note}
use Rattle.port_table.specs.declared.port_mode.PortMode.{PortMode}
use Rattle.record_codec.specs.declared.durable.Durable.{Durable}

abbrev pub new_card : PortMode → ℕ → List ℕ → ℕ → ℕ → List Note → Durable
new_card mode ports eid next_number next_note notes = record {
  heads = record {
    eid = eid;
    ports = record { mode = mode; count = ports; on = replicate ports None };
    next_number = next_number;
    profiles = [];
    notes = record { list = notes; next = next_note };
  };
  contents = [];
}
