use Rattle.std.proofs.Common.{◌↔◌, drop}
use Rattle.plain_lists.specs.EachTwo.{EachTwo}
use Rattle.file_rows.specs.Apart.{ArePinsApart}
use Rattle.file_rows.proofs.pins.are_apart.Given as goal

abbrev pub invariant-loop-index : goal.invariant-loop-index
invariant-loop-index l = EachTwo ArePinsApart (drop l.index l.pins) ↔ EachTwo ArePinsApart l.pins
