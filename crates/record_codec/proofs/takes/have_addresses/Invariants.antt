use Rattle.std.proofs.Common.{◌↔◌, drop}
use Rattle.std.specs.List.{AllByRecursion}
use Rattle.record_codec.specs.IsDurable.{IsAddress}
use Rattle.record_codec.proofs.takes.have_addresses.Given as goal

abbrev pub invariant-loop-target : goal.invariant-loop-target
invariant-loop-target l = AllByRecursion (λ target. IsAddress target.address) (drop l.target-index l.targets) ↔ AllByRecursion (λ target. IsAddress target.address) l.targets
