use Rattle.std.proofs.Common.{◌≡◌, drop}
use Rattle.std.specs.Prelude.{◌==◌}
use Rattle.std.specs.List.{list_any}
use Rattle.isdr_commands.proofs.notifications.pending_number.Given as goal

abbrev pub invariant-loop-note : goal.invariant-loop-note
invariant-loop-note l = list_any (λ note. note.number == l.number) (drop l.note-index l.notes)
    ≡ list_any (λ note. note.number == l.number) l.notes
