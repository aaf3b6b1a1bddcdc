use Rattle.std.proofs.Common.{◌≡◌, ℕ, length, Some}
use Rattle.std.specs.Prelude.{slice_get}
use Rattle.card_core.specs.AtPort.{IsAtPort, port_state}
use Rattle.card_core.specs.PortState.{fresh_port}
use Rattle.card_core.specs.declared.port.Port.{Port}
use Rattle.card_core.proofs.world.open_ports.Given as goal

abbrev pub invariant-loop-number : goal.invariant-loop-number
invariant-loop-number l = record {
  count : length l.ports.items ≡ l.number;
  cards : (place : ℕ) (its : Port) → slice_get l.ports.items place ≡ Some its
      → IsAtPort l.durable place its;
  fresh : (place : ℕ) (its : Port) → slice_get l.ports.items place ≡ Some its
      → port_state its ≡ fresh_port;
}
