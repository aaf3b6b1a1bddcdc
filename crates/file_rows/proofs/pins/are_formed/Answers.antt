use Rattle.file_rows.specs.Content.{IsAtHome, heads_of}
use Rattle.file_rows.specs.PinRow.{IsPin}
use Rattle.file_rows.proofs.EachLemmas.{each_more}
use Rattle.file_rows.proofs.pins.are_formed.Goals as goal

pub loop-pin-preserved : goal.loop-pin-preserved
loop-pin-preserved c =
    each_more (λ pin. IsPin pin × IsAtHome (heads_of c.args.rows.now) pin) c.args.pins.now c.loop-pin.pin-index c.pin-item.result
    c.loop-pin-test.true c.pin-item.is c.loop-pin.invariant (c.is_formed.ensures.0 c.if-not-is_formed.false)
