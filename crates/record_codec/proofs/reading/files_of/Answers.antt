use Rattle.std.proofs.lemmas.Result.{err_from_is_err_and}
use Rattle.record_codec.specs.Reading.{items_at, file_read}
use Rattle.record_codec.proofs.LoopLemmas.{ends, goes_on, is_done}
use Rattle.record_codec.proofs.reading.files_of.Goals as goal

pub returns-in_err-row : goal.returns-in_err-row
returns-in_err-row c =
    let p = err_from_is_err_and c.from_residual.result c.from_residual.ensures.1 in
    rw (p.1, p.2) (ends file_read c.in_err-row.field-0.0 c.loop.rows.items c.args.count c.loop.counter c.loop.rest.now (items_at file_read c.args.count c.args.bytes.now) c.loop-test.true c.in_err-row.ensures c.loop.invariant)

pub loop-preserved : goal.loop-preserved
loop-preserved c =
    let read = goes_on file_read c.loop.rows.items c.args.count c.loop.counter c.loop.rest.now c.in_ok-row.row c.in_ok-row.after.now (items_at file_read c.args.count c.args.bytes.now) c.loop-test.true c.in_ok-row.ensures c.loop.invariant in
    rw c.in_ok-push.ensures.items read

pub returns : goal.returns
returns c = is_done file_read c.loop.rows.items c.args.count c.loop.counter c.loop.rest.now (items_at file_read c.args.count c.args.bytes.now) c.loop-test.false c.loop.invariant
