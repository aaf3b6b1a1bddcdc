use Rattle.std.proofs.Common.{◌≢◌, ◌↔◌, drop}
use Rattle.std.specs.List.{AllByRecursion}
use Rattle.record_codec.proofs.takes.are_unlike.Given as goal

abbrev pub invariant-loop-other : goal.invariant-loop-other
invariant-loop-other l = AllByRecursion (λ other. l.number ≢ other) (drop l.other-index l.others) ↔ AllByRecursion (λ other. l.number ≢ other) l.others
