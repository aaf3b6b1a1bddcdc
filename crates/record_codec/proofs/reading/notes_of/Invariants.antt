use Rattle.std.proofs.Common.{◌≡◌, ◌-◌}
use Rattle.record_codec.specs.Reading.{items_at, note_at}
use Rattle.record_codec.proofs.LoopLemmas.{with_front}
use Rattle.record_codec.proofs.reading.notes_of.Given as goal

abbrev pub invariant-loop : goal.invariant-loop
invariant-loop l = with_front l.notes.items (items_at note_at (l.count - l.counter) l.rest) ≡ items_at note_at l.count l.bytes
