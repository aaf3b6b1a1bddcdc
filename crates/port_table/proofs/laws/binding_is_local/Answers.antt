use Rattle.port_table.proofs.PortLemmas.{nowhere, others}
use Rattle.port_table.proofs.laws.binding_is_local.Goals as goal

pub returns-clause-unbound : goal.returns-clause-unbound
returns-clause-unbound c = λ ports profile. nowhere profile ports

pub returns-clause-others : goal.returns-clause-others
returns-clause-others c = λ ports profile another port differs. others profile ports another port differs
