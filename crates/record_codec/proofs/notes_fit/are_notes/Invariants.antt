use Rattle.std.proofs.Common.{◌↔◌, drop}
use Rattle.record_codec.proofs.BehindLemmas.{AreBehind}
use Rattle.record_codec.proofs.notes_fit.are_notes.Given as goal

abbrev pub invariant-loop-note : goal.invariant-loop-note
invariant-loop-note l = AreBehind l.previous l.next (drop l.note-index l.list) ↔ AreBehind 0 l.next l.list
