use Rattle.pin_state.proofs.CommandLemmas.{left-after}
use Rattle.pin_state.proofs.laws.tries_rise_by_right_values_alone.Goals as goal

pub returns : goal.returns
returns c = left-after
