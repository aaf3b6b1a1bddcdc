use Rattle.pin_state.proofs.SameLemmas.{same_pin-equal, same_pin-refl}
use Rattle.pin_state.proofs.laws.same_rows_are_equal.Goals as goal

pub returns-clause-same : goal.returns-clause-same
returns-clause-same c = same_pin-equal

pub returns-clause-itself : goal.returns-clause-itself
returns-clause-itself c = same_pin-refl
