use Rattle.std.proofs.Common.{◌≡◌, take}
use Rattle.notify_list.proofs.notes.Notes.replace.Given as goal

abbrev pub invariant-loop-note : goal.invariant-loop-note
invariant-loop-note l = l.self ≡ record { list = take l.note-index l.list; next = l.next }
