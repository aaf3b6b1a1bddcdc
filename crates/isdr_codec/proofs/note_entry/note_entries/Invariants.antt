use Rattle.std.proofs.Common.{◌≡◌, ◌≤◌, ◌*◌, take, vec_len}
use Rattle.std.specs.List.{flat_map}
use Rattle.isdr_codec.specs.NoteEntry.{note_entry}
use Rattle.isdr_codec.proofs.note_entry.note_entries.Given as goal

abbrev pub invariant-loop-note : goal.invariant-loop-note
invariant-loop-note l = record {
  bytes : l.out.items ≡ flat_map (note_entry l.operations) (take l.note-index l.notes);
  few : vec_len l.out ≤ 256 * l.note-index;
}
