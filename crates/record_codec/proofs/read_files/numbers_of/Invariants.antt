use Rattle.std.proofs.Common.{◌≡◌, ◌-◌, length}
use Rattle.std.specs.Int.{w16}
use Rattle.record_codec.specs.Reading.{items_at, number_at}
use Rattle.record_codec.proofs.LoopLemmas.{with_front}
use Rattle.record_codec.proofs.read_files.numbers_of.Given as goal

abbrev pub invariant-loop : goal.invariant-loop
invariant-loop g l = record {
  read : with_front l.numbers (items_at (number_at w16) (l.count - l.counter) l.rest) ≡ items_at (number_at w16) l.count l.bytes;
  len : length l.numbers ≡ l.counter;
}
