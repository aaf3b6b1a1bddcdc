use Rattle.card_core.proofs.SoFarLemmas.{AreSoFar}
use Rattle.card_core.specs.AtPort.{IsRestarted}
use Rattle.card_core.proofs.world.resets.restart_ports.Given as goal

abbrev pub invariant-loop-port : goal.invariant-loop-port
invariant-loop-port l = AreSoFar (λ number. IsRestarted) l.fn.ports l.ports l.port-index
