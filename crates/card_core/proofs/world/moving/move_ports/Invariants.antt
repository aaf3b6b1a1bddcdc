use Rattle.card_core.proofs.SoFarLemmas.{AreSoFar}
use Rattle.card_core.specs.AtPort.{IsMovedTo}
use Rattle.card_core.specs.IsdrCommand.{kept_on, move_at}
use Rattle.card_core.proofs.world.moving.move_ports.Given as goal

abbrev pub invariant-loop-place : goal.invariant-loop-place
invariant-loop-place l =
    AreSoFar (λ number. IsMovedTo l.durable number (kept_on l.came l.channel number)
    (move_at l.moves number)) l.fn.ports l.ports l.place
