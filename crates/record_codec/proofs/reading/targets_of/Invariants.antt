use Rattle.std.proofs.Common.{◌≡◌, ◌-◌, length}
use Rattle.record_codec.specs.Reading.{items_at, target_at}
use Rattle.record_codec.proofs.LoopLemmas.{with_front}
use Rattle.record_codec.proofs.reading.targets_of.Given as goal

abbrev pub invariant-loop : goal.invariant-loop
invariant-loop l = record {
  read : with_front l.targets (items_at target_at (l.count - l.counter) l.rest) ≡ items_at target_at l.count l.bytes;
  len : length l.targets ≡ l.counter;
}
