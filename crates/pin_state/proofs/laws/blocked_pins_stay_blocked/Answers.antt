use Rattle.pin_state.proofs.CommandLemmas.{blocked-after}
use Rattle.pin_state.proofs.laws.blocked_pins_stay_blocked.Goals as goal

pub returns : goal.returns
returns c = blocked-after
