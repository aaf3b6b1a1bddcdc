use Rattle.port_table.proofs.PortLemmas.{unbound_keeps}
use Rattle.port_table.proofs.laws.ports_keep_their_rule.Goals as goal

pub returns-clause-unbound : goal.returns-clause-unbound
returns-clause-unbound c = λ ports profile rule. unbound_keeps profile ports rule
