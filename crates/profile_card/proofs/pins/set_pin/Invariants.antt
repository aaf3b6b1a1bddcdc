use Rattle.std.proofs.Common.{◌≡◌}
use Rattle.std.specs.Prelude.{◌==◌, if◌then◌else◌}
use Rattle.file_rows.specs.declared.pin.PinRow.{PinRow}
use Rattle.profile_card.proofs.PinLemmas.{turned_to}
use Rattle.profile_card.proofs.pins.set_pin.Given as goal

abbrev pub invariant-loop-pin : goal.invariant-loop-pin
invariant-loop-pin l =
    l.pins ≡ turned_to (λ (pin : PinRow). if pin.number == l.set.number then l.set else pin) l.pin-index l.initial.pins
