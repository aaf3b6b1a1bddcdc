use Rattle.std.proofs.Common.{◌≡◌, ◌-◌}
use Rattle.record_codec.specs.Reading.{items_at, file_read}
use Rattle.record_codec.proofs.LoopLemmas.{with_front}
use Rattle.record_codec.proofs.reading.files_of.Given as goal

abbrev pub invariant-loop : goal.invariant-loop
invariant-loop l = with_front l.rows.items (items_at file_read (l.count - l.counter) l.rest) ≡ items_at file_read l.count l.bytes
