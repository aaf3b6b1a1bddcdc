use Rattle.std.proofs.Common.{◌≡◌, length, drop, filter}
use Rattle.record_codec.specs.Noted.{names, noted, with_each}
use Rattle.notify_list.specs.Notes.{HasNoteRoom}
use Rattle.record_codec.proofs.noting.note.Given as goal

abbrev pub invariant-loop-target : goal.invariant-loop-target
invariant-loop-target l = record {
  so_far : with_each l.operation l.head.iccid (filter (names l.operation) (drop l.target-index l.target-items)) l.notes ≡ noted l.operation l.head l.initial.notes;
  room : HasNoteRoom l.notes (length (filter (names l.operation) (drop l.target-index l.target-items)));
}
