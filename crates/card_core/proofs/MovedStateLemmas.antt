-- What stands at the ports after a request.
use Rattle.std.proofs.Common.{◌≡◌, ◌+◌, ℕ, List, length, map, Option, Some, None, ap, sym, ◌∙◌}
use Rattle.std.proofs.Common.{arith}
use Rattle.std.specs.Prelude.{slice_get}
use Rattle.isdr_commands.specs.declared.moves.Move.{Move}
use Rattle.record_codec.specs.declared.durable.Durable.{Durable}
use Rattle.card_core.proofs.EachLemmas.{each_is}
use Rattle.card_core.specs.AtPort.{IsMovedTo, port_state}
use Rattle.card_core.specs.IsdrCommand.{at_each, move_at, port_moved}
use Rattle.card_core.specs.PortState.{PortState}
use Rattle.card_core.specs.declared.port.Port.{Port}

moved_state : (durable : Durable) (number : ℕ) (kept : Option ℕ) (move : Option Move)
    (one its : Port) → IsMovedTo durable number kept move one its
    → port_state its ≡ port_moved kept move (port_state one)
moved_state durable number kept None one its moved = ap port_state moved
moved_state durable number kept (Some move) one its moved = moved.0

pub moved_states : (durable : Durable) (kept : ℕ → Option ℕ) (moves : List Move)
    (before after : List Port) → length after ≡ length before
    → ((number : ℕ) (one its : Port) → slice_get before number ≡ Some one
    → slice_get after number ≡ Some its
    → IsMovedTo durable number (kept number) (move_at moves number) one its)
    → map port_state after
    ≡ at_each (λ number. port_moved (kept number) (move_at moves number)) 0
    (map port_state before)
moved_states durable kept moves before after same each =
    let change : ℕ → PortState → PortState =
    λ number. port_moved (kept number) (move_at moves number) in
    each_is port_state change 0 before after same (λ number one its was is.
    let none : 0 + number ≡ number = omega arith in
    moved_state durable number (kept number) (move_at moves number) one its
    (each number one its was is)
    ∙ ap (λ (n : ℕ). change n (port_state one)) (sym none))
