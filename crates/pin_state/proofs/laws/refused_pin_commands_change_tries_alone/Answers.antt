use Rattle.pin_state.proofs.TriesLemmas.{Spares-outcome}
use Rattle.pin_state.proofs.laws.refused_pin_commands_change_tries_alone.Goals as goal

pub returns : goal.returns
returns c = Spares-outcome
