use Rattle.std.proofs.Common.{◌∙◌, arith}
use Rattle.port_table.proofs.PortLemmas.{free_more}
use Rattle.port_table.proofs.ports.Ports.unbind.Goals as goal

pub loop-port-preserved : goal.loop-port-preserved
loop-port-preserved c =
    c.free.ensures
    ∙ free_more c.args.profile c.args.self.now c.loop-port.self c.loop-port.port (omega (arith, c.loop-port-test.true, c.len-port-end.ensures.value)) c.loop-port.invariant
