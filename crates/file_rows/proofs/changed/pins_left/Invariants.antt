use Rattle.std.proofs.Common.{◌≡◌, take, filter, not}
use Rattle.file_rows.specs.Path.{stands_below}
use Rattle.file_rows.proofs.changed.pins_left.Given as goal

abbrev pub invariant-loop-pin : goal.invariant-loop-pin
invariant-loop-pin l = l.left.items ≡ filter (λ pin. not (stands_below l.top pin.home)) (take l.pin-index l.pins)
