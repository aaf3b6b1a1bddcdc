use Rattle.file_rows.proofs.ChangeLemmas.{added, gone, others}
use Rattle.file_rows.proofs.PinChangeLemmas.{gone_pins, other_pins, set_pin}
use Rattle.file_rows.proofs.laws.changes_are_local.Goals as goal

pub returns-clause-others : goal.returns-clause-others
returns-clause-others c = others

pub returns-clause-added : goal.returns-clause-added
returns-clause-added c = added

pub returns-clause-gone : goal.returns-clause-gone
returns-clause-gone c = gone

pub returns-clause-other_pins : goal.returns-clause-other_pins
returns-clause-other_pins c = other_pins

pub returns-clause-set_pin : goal.returns-clause-set_pin
returns-clause-set_pin c = set_pin

pub returns-clause-gone_pins : goal.returns-clause-gone_pins
returns-clause-gone_pins c = gone_pins
