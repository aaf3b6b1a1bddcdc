use Rattle.std.proofs.Common.{◌≡◌, ◌≤◌, ◌*◌, take}
use Rattle.pin_state.proofs.DistanceLemmas.{distance}
use Rattle.pin_state.proofs.value.is_right.Given as goal

abbrev pub invariant-loop-index : goal.invariant-loop-index
invariant-loop-index l = (l.distance ≡ distance (take l.index l.presented) (take l.index l.value)) × (l.distance ≤ 255 * l.index)
