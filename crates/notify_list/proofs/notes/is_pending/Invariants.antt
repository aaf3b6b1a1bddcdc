use Rattle.std.proofs.Common.{◌≡◌, ◌↔◌, drop}
use Rattle.std.specs.Prelude.{Any}
use Rattle.notify_list.proofs.notes.is_pending.Given as goal

abbrev pub invariant-loop-note : goal.invariant-loop-note
invariant-loop-note l = Any (λ note. note.number ≡ l.number) (drop l.note-index l.list) ↔ Any (λ note. note.number ≡ l.number) l.list
