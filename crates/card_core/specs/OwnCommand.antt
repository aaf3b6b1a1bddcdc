-- A command that the card of its port answers: one step of that card, on the content at the port.
use Rattle.std.specs.Prelude.{ℕ, ◌+◌, [], ◌∷◌, Option, Some, None, is_some}
use Rattle.apdu_codec.specs.Command.{Apdu}
use Rattle.file_rows.specs.declared.change.Change.{Change}
use Rattle.profile_card.specs.Commands.{decision}
use Rattle.record_codec.specs.declared.durable.Durable.{Durable}
use Rattle.uicc_channels.specs.CommandOutcome.{CommandOutcome}
use Rattle.card_core.specs.Desk.{left_channel, without_channel}
use Rattle.card_core.specs.Port.{changed_on}
use Rattle.card_core.specs.PortState.{PortState, counted}
use Rattle.card_core.specs.World.{Made, WorldState, answered_line, card_in, count_if, port_in}
use Rattle.card_core.specs.World.{with_port}

-- what the card keeps after a change of the content at a port, where there is one
abbrev pub changed_where : Durable → ℕ → Option Change → Durable
changed_where durable port None = durable
changed_where durable port (Some change) = changed_on durable port change

-- the port after a command that came to this: the session of its card, and nothing is under way on
-- a channel that the command took from the ISD-R
abbrev pub port_after : PortState → Apdu → CommandOutcome → PortState
port_after port c outcome = record (counted port) {
  session = outcome.session;
  desk = without_channel port.desk (left_channel c outcome.answer.sw);
}

abbrev pub carried_at : WorldState → ℕ → Apdu → CommandOutcome → Made
carried_at state port c outcome = record {
  state = record (with_port state port (port_after (port_in state port) c outcome)) {
    durable = changed_where state.durable port outcome.change;
    commits = state.commits + count_if (is_some outcome.change);
  };
  entries = answered_line state port outcome.answer ∷ [];
}

abbrev pub own_made : WorldState → ℕ → Apdu → Made
own_made state port c = carried_at state port c (decision (card_in state port) c)
