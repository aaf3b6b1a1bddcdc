-- A port as a program keeps it.
use Rattle.std.specs.Prelude.{ℕ, ◌≡◌, false, List, length, slice_get, Option, Some, None}
use Rattle.isdr_commands.specs.declared.moves.Move.{Move}
use Rattle.profile_card.specs.CardState.{card_of}
use Rattle.record_codec.specs.declared.durable.Durable.{Durable}
use Rattle.uicc_channels.specs.Session.{fresh_session}
use Rattle.card_core.specs.IsdrCommand.{port_moved}
use Rattle.card_core.specs.PortState.{PortState, fresh_port}
use Rattle.card_core.specs.World.{card_on}
use Rattle.card_core.specs.declared.port.Port.{Port}

-- what stands there
abbrev pub port_state : Port → PortState
port_state port = record {
  session = port.session;
  desk = port.desk;
  load = port.load;
  statements = port.statements;
}

-- its card is that of the port of this number, by what is kept
abbrev pub IsAtPort : Durable → ℕ → Port → Type 0
IsAtPort durable number port = card_of port.card ≡ card_on durable number port.session

-- the ports of a card, each with the card that stands there
pub record AreAtPorts (durable : Durable) (ports : List Port) : Type 0 where
  pub count : length ports ≡ durable.heads.ports.count
  pub each : (number : ℕ) (port : Port) → slice_get ports number ≡ Some port
      → IsAtPort durable number port

-- a port of this number after a request: where it moves it has the card that stands there now, in a
-- fresh session, and else it is as it was
abbrev pub IsMovedTo : Durable → ℕ → Option ℕ → Option Move → Port → Port → Type 0
IsMovedTo durable number kept None before after = after ≡ before
IsMovedTo durable number kept (Some move) before after =
    (port_state after ≡ port_moved kept (Some move) (port_state before))
    × IsAtPort durable number after

-- a port after a power cycle: what stands there is fresh, and its card is in a fresh session
pub record IsRestarted (before after : Port) : Type 0 where
  pub state : port_state after ≡ fresh_port
  pub card : card_of after.card
      ≡ record (card_of before.card) { session = fresh_session false None }
