-- A reset of a port by its own statement.
use Rattle.std.specs.Prelude.{ℕ, [], ◌∷◌, None}
use Rattle.card_core.specs.PortState.{counted, reset_port}
use Rattle.card_core.specs.World.{Made, WorldState, entry_at, next_maker, port_in, with_port}
use Rattle.card_core.specs.declared.entry.Line.TheVariants.{OwnReset}

abbrev pub reset_made : WorldState → ℕ → Made
reset_made state port = record {
  state = with_port state port (counted (reset_port None (port_in state port)));
  entries = entry_at state port (OwnReset (next_maker state port).number) ∷ [];
}
