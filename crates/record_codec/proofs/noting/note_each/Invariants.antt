use Rattle.std.proofs.Common.{◌≡◌, drop}
use Rattle.record_codec.specs.Noted.{count_of_each, noted_each}
use Rattle.notify_list.specs.Notes.{HasNoteRoom}
use Rattle.record_codec.proofs.noting.note_each.Given as goal

abbrev pub invariant-loop-number : goal.invariant-loop-number
invariant-loop-number l = record {
  so_far : noted_each l.operation (drop l.number-index l.number-items) l.profiles l.notes ≡ noted_each l.operation l.numbers l.profiles l.initial.notes;
  room : HasNoteRoom l.notes (count_of_each l.operation (drop l.number-index l.number-items) l.profiles);
}
