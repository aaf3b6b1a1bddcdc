-- GSMA SGP.22, ES10b.NotificationSent.
use Rattle.std.specs.Prelude.{ℕ, ◌==◌, [], if◌then◌else◌}
use Rattle.std.specs.List.{list_any}
use Rattle.isdr_commands.specs.Decision.{accepted, refused_with}
use Rattle.isdr_commands.specs.declared.decision.Decision.{Decision}
use Rattle.record_codec.specs.declared.durable.Heads.{Heads}
use Rattle.record_codec.specs.declared.record.Record.TheVariants.{NoteGone}

-- 1 no such notification is pending; else it goes
abbrev pub note_sent : Heads → ℕ → Decision
note_sent heads number =
    if list_any (λ note. note.number == number) heads.notes.list
    then accepted 0xBF30 (NoteGone number) [] else refused_with 0xBF30 1
