use Rattle.port_table.proofs.PortOfLemmas.{nowhere_found, stands}
use Rattle.port_table.proofs.laws.profiles_stand_on_their_port.Goals as goal

pub returns-clause-stands : goal.returns-clause-stands
returns-clause-stands c = λ ports profile port found. stands profile ports.on port found

pub returns-clause-nowhere : goal.returns-clause-nowhere
returns-clause-nowhere c = λ ports profile. nowhere_found profile ports
