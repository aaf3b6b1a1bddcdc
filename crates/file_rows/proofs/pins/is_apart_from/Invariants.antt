use Rattle.std.proofs.Common.{◌↔◌, drop}
use Rattle.std.specs.List.{AllByRecursion}
use Rattle.file_rows.specs.Apart.{ArePinsApart}
use Rattle.file_rows.proofs.pins.is_apart_from.Given as goal

abbrev pub invariant-loop-other : goal.invariant-loop-other
invariant-loop-other l = AllByRecursion (ArePinsApart l.pin) (drop l.other-index l.later) ↔ AllByRecursion (ArePinsApart l.pin) l.later
