use Rattle.std.proofs.Common.{sym, ◌∙◌, arith}
use Rattle.port_table.proofs.PortOfLemmas.{port_found, port_none}
use Rattle.port_table.proofs.port_of.place_of.Goals as goal

pub returns-then-holds : goal.returns-then-holds
returns-then-holds c =
    sym (port_found c.args.on.now c.loop-port.port c.args.profile c.loop-port.invariant c.loop-port-test.true (sym c.holds.ensures ∙ c.if-holds.true))

pub returns : goal.returns
returns c = sym (port_none c.args.on.now c.args.profile (λ k below. c.loop-port.invariant k (omega (arith, below, c.loop-port-test.false))))
