use Rattle.std.proofs.Common.{◌≡◌}
use Rattle.notify_list.proofs.NoteLemmas.{any_rest}
use Rattle.notify_list.proofs.notes.is_pending.Goals as goal

pub loop-note-preserved : goal.loop-note-preserved
loop-note-preserved c =
    any_rest (λ note. note.number ≡ c.args.number) c.args.list.now c.loop-note.note-index c.note-item.result c.loop-note-test.true c.note-item.is
    c.loop-note.invariant c.if-note-number.false
