use Rattle.std.proofs.Common.{◌≢◌, ◌↔◌, drop}
use Rattle.std.specs.List.{AllByRecursion}
use Rattle.record_codec.proofs.takes.is_new_iccid.Given as goal

abbrev pub invariant-loop-other : goal.invariant-loop-other
invariant-loop-other l = AllByRecursion (λ other. other.iccid ≢ l.iccid) (drop l.other-index l.profiles) ↔ AllByRecursion (λ other. other.iccid ≢ l.iccid) l.profiles
