use Rattle.std.proofs.Common.{[], ◌∷◌, arith}
use Rattle.std.proofs.lemmas.List.{length-append}
use Rattle.std.proofs.lemmas.Result.{err_from_is_err_and}
use Rattle.std.specs.Int.{w16}
use Rattle.record_codec.specs.Reading.{items_at, number_at}
use Rattle.record_codec.proofs.LoopLemmas.{ends, goes_on, is_done}
use Rattle.record_codec.proofs.read_files.numbers_of.Goals as goal

pub returns-in_err-number-clause-read : goal.returns-in_err-number-clause-read
returns-in_err-number-clause-read g c =
    let p = err_from_is_err_and c.from_residual.result c.from_residual.ensures.1 in
    rw (p.1, p.2) (ends (number_at w16) c.in_err-number.field-0.0 c.loop.numbers c.args.count c.loop.counter c.loop.rest.now (items_at (number_at w16) c.args.count c.args.bytes.now) c.loop-test.true c.in_err-number.ensures.read c.loop.invariant.read)

pub loop-preserved : goal.loop-preserved
loop-preserved g c =
    let read = goes_on (number_at w16) c.loop.numbers c.args.count c.loop.counter c.loop.rest.now c.in_ok-number.number c.in_ok-number.after.now (items_at (number_at w16) c.args.count c.args.bytes.now) c.loop-test.true c.in_ok-number.ensures.read c.loop.invariant.read in
    rw c.push.ensures (record {
      read = read;
      len = omega (arith, c.loop.invariant.len, length-append c.loop.numbers (c.in_ok-number.number ∷ []));
    })

pub returns-clause-read : goal.returns-clause-read
returns-clause-read g c = is_done (number_at w16) c.loop.numbers c.args.count c.loop.counter c.loop.rest.now (items_at (number_at w16) c.args.count c.args.bytes.now) c.loop-test.false c.loop.invariant.read
