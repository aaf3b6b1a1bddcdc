use Rattle.flash_pages.proofs.SwitchByte.{one_next_byte, switches}
use Rattle.flash_pages.proofs.laws.next_byte_switches.Goals as goal

pub returns-clause-one : goal.returns-clause-one
returns-clause-one c = one_next_byte

pub returns-clause-switches : goal.returns-clause-switches
returns-clause-switches c = switches
