use Rattle.std.proofs.Common.{◌≡◌, take}
use Rattle.record_codec.proofs.durable.copy_profiles.Given as goal

abbrev pub invariant-loop-head : goal.invariant-loop-head
invariant-loop-head l = l.copies ≡ take l.head-index l.head-items
