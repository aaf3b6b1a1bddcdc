use Rattle.std.proofs.Common.{◌↔◌, drop}
use Rattle.std.specs.List.{AllByRecursion}
use Rattle.record_codec.specs.Heads.{IsHeld}
use Rattle.record_codec.proofs.takes.are_held.Given as goal

abbrev pub invariant-loop-number : goal.invariant-loop-number
invariant-loop-number l = AllByRecursion (λ number. IsHeld number l.profiles) (drop l.number-index l.numbers) ↔ AllByRecursion (λ number. IsHeld number l.profiles) l.numbers
