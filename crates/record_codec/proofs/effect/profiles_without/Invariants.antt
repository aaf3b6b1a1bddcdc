use Rattle.std.proofs.Common.{◌≡◌, ◌≤◌, not, length, take, filter}
use Rattle.record_codec.specs.Gone.{is_among}
use Rattle.record_codec.proofs.effect.profiles_without.Given as goal

abbrev pub invariant-loop-head : goal.invariant-loop-head
invariant-loop-head l = (l.left ≡ filter (λ head. not (is_among l.numbers head.number)) (take l.head-index l.profiles)) × (length l.left ≤ l.head-index)
