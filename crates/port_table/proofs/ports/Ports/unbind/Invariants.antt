use Rattle.std.proofs.Common.{◌≡◌}
use Rattle.plain_lists.proofs.MappedLemmas.{mapped_to}
use Rattle.port_table.specs.Ports.{freed}
use Rattle.port_table.proofs.ports.Ports.unbind.Given as goal

abbrev pub invariant-loop-port : goal.invariant-loop-port
invariant-loop-port l = l.self ≡ record l.initial.self { on = mapped_to (freed l.profile) l.port l.initial.self.on }
