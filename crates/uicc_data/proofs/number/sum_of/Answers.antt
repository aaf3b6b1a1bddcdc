use Rattle.std.proofs.Common.{◌+◌, ◌-◌, ℕ, length, length-set, ◌∙◌, arith}
use Rattle.uicc_data.proofs.NumberLemmas.{each_set, sum_done, sum_more}
use Rattle.uicc_data.proofs.number.sum_of.Goals as goal

pub loop-place-preserved : goal.loop-place-preserved
loop-place-preserved c =
    let x : ℕ = c.digit.result in
    let y : ℕ = c.digit-in-loop-place.result in
    let total : ℕ = x + y + c.loop-place.carry in (
      rw (c.set.ensures, c.from.ensures, c.from-in-loop-place.ensures)
          (sum_more c.loop-place.sum c.args.number.now c.args.addend.now c.loop-place.place c.loop-place.carry c.digit.result c.digit-in-loop-place.result c.loop-place.invariant.1
          c.loop-place-test.true c.digit.ensures c.digit-in-loop-place.ensures c.loop-place.invariant.0),
      rw c.set.ensures (length-set c.loop-place.sum (length c.args.number.now - 1 - c.loop-place.place) _ ∙ c.loop-place.invariant.1),
      omega (arith, c.from.ensures, c.from-in-loop-place.ensures, c.digit.type_inv, c.digit-in-loop-place.type_inv, c.loop-place.invariant.2),
      λ i. rw c.set.ensures (each_set c.loop-place.sum (length c.args.number.now - 1 - c.loop-place.place) _ c.loop-place.invariant.3 (omega arith) i),
    )

pub returns-then-carry-eq0-clause-value : goal.returns-then-carry-eq0-clause-value
returns-then-carry-eq0-clause-value c =
    sum_done c.loop-place.sum c.args.number.now c.args.addend.now c.loop-place.place c.loop-place.carry (omega arith) c.requires.fits
    c.loop-place.invariant.1 c.loop-place.invariant.0 c.if-carry-eq0.true c.loop-place.invariant.3
