use Rattle.std.proofs.Common.{◌<◌, get_or, length, arith}
use Rattle.std.proofs.lemmas.Option.{slice_get-get_or}
use Rattle.card_core.proofs.SoFarLemmas.{so_far_all, so_far_more}
use Rattle.card_core.specs.AtPort.{IsRestarted}
use Rattle.card_core.proofs.world.resets.restart_ports.Goals as goal

pub loop-port-preserved : goal.loop-port-preserved
loop-port-preserved c =
    let below : c.loop-port.port-index < length c.loop-port.ports =
    omega (arith, c.loop-port.auto.ports, c.loop-port-test.true) in
    so_far_more (λ number. IsRestarted) c.args.ports.now c.loop-port.ports c.loop-port.port-index
    (get_or c.loop-port.ports c.loop-port.port-index c.port-item.result) c.restart.new.self
    c.loop-port.invariant
    (slice_get-get_or c.loop-port.ports c.loop-port.port-index c.port-item.result below)
    (record { state = c.restart.ensures.state; card = c.restart.ensures.card })

pub returns-clause-each : goal.returns-clause-each
returns-clause-each c =
    so_far_all (λ number. IsRestarted) c.args.ports.now c.loop-port.ports c.loop-port.port-index
    c.loop-port.invariant c.loop-port-test.false
