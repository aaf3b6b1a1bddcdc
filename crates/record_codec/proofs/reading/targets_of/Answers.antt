use Rattle.std.proofs.Common.{[], ◌∷◌, arith}
use Rattle.std.proofs.lemmas.List.{length-append}
use Rattle.std.proofs.lemmas.Result.{err_from_is_err_and}
use Rattle.record_codec.specs.Reading.{items_at, target_at}
use Rattle.record_codec.proofs.LoopLemmas.{ends, goes_on, is_done}
use Rattle.record_codec.proofs.reading.targets_of.Goals as goal

pub returns-in_err-target : goal.returns-in_err-target
returns-in_err-target c =
    let p = err_from_is_err_and c.from_residual.result c.from_residual.ensures.1 in
    rw (p.1, p.2) (ends target_at c.in_err-target.field-0.0 c.loop.targets c.args.count c.loop.counter c.loop.rest.now (items_at target_at c.args.count c.args.bytes.now) c.loop-test.true c.in_err-target.ensures c.loop.invariant.read)

pub loop-preserved : goal.loop-preserved
loop-preserved c =
    let read = goes_on target_at c.loop.targets c.args.count c.loop.counter c.loop.rest.now c.in_ok-target.target c.in_ok-target.after.now (items_at target_at c.args.count c.args.bytes.now) c.loop-test.true c.in_ok-target.ensures c.loop.invariant.read in
    rw c.push.ensures (record {
      read = read;
      len = omega (arith, c.loop.invariant.len, length-append c.loop.targets (c.in_ok-target.target ∷ []));
    })

pub returns : goal.returns
returns c = is_done target_at c.loop.targets c.args.count c.loop.counter c.loop.rest.now (items_at target_at c.args.count c.args.bytes.now) c.loop-test.false c.loop.invariant.read
