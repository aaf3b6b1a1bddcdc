use Rattle.std.proofs.Common.{◌≡◌, take}
use Rattle.file_rows.specs.Change.{with_pin}
use Rattle.file_rows.proofs.changed.with_pin.Given as goal

abbrev pub invariant-loop-pin : goal.invariant-loop-pin
invariant-loop-pin l = l.after.items ≡ with_pin l.set (take l.pin-index l.pins)
