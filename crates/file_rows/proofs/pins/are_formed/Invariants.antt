use Rattle.std.proofs.Common.{◌↔◌, drop}
use Rattle.std.specs.List.{AllByRecursion}
use Rattle.file_rows.specs.Content.{IsAtHome, heads_of}
use Rattle.file_rows.specs.PinRow.{IsPin}
use Rattle.file_rows.proofs.pins.are_formed.Given as goal

abbrev pub invariant-loop-pin : goal.invariant-loop-pin
invariant-loop-pin l =
    AllByRecursion (λ pin. IsPin pin × IsAtHome (heads_of l.rows) pin) (drop l.pin-index l.pins)
    ↔ AllByRecursion (λ pin. IsPin pin × IsAtHome (heads_of l.rows) pin) l.pins
