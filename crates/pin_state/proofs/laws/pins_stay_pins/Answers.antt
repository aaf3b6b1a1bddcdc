use Rattle.pin_state.proofs.FormLemmas.{IsPin-outcome, KeepsPin-outcome}
use Rattle.pin_state.proofs.laws.pins_stay_pins.Goals as goal

pub returns-clause-form : goal.returns-clause-form
returns-clause-form c = IsPin-outcome

pub returns-clause-same : goal.returns-clause-same
returns-clause-same c = KeepsPin-outcome
