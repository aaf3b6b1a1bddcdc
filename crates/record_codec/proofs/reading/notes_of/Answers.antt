use Rattle.std.proofs.lemmas.Result.{err_from_is_err_and}
use Rattle.record_codec.specs.Reading.{items_at, note_at}
use Rattle.record_codec.proofs.LoopLemmas.{ends, goes_on, is_done}
use Rattle.record_codec.proofs.reading.notes_of.Goals as goal

pub returns-in_err-note : goal.returns-in_err-note
returns-in_err-note c =
    let p = err_from_is_err_and c.from_residual.result c.from_residual.ensures.1 in
    rw (p.1, p.2) (ends note_at c.in_err-note.field-0.0 c.loop.notes.items c.args.count c.loop.counter c.loop.rest.now (items_at note_at c.args.count c.args.bytes.now) c.loop-test.true c.in_err-note.ensures c.loop.invariant)

pub loop-preserved : goal.loop-preserved
loop-preserved c =
    let read = goes_on note_at c.loop.notes.items c.args.count c.loop.counter c.loop.rest.now c.in_ok-note.note c.in_ok-note.after.now (items_at note_at c.args.count c.args.bytes.now) c.loop-test.true c.in_ok-note.ensures c.loop.invariant in
    rw c.in_ok-push.ensures.items read

pub returns : goal.returns
returns c = is_done note_at c.loop.notes.items c.args.count c.loop.counter c.loop.rest.now (items_at note_at c.args.count c.args.bytes.now) c.loop-test.false c.loop.invariant
