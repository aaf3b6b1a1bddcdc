use Rattle.std.proofs.Common.{◌↔◌, drop}
use Rattle.record_codec.specs.Heads.{IsHeld}
use Rattle.record_codec.proofs.counts.is_held.Given as goal

abbrev pub invariant-loop-head : goal.invariant-loop-head
invariant-loop-head l = IsHeld l.number (drop l.head-index l.profiles) ↔ IsHeld l.number l.profiles
