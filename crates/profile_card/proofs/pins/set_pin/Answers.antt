use Rattle.std.proofs.Common.{add-one, if◌then◌else◌}
use Rattle.std.specs.Prelude.{◌==◌}
use Rattle.file_rows.specs.declared.pin.PinRow.{PinRow}
use Rattle.profile_card.proofs.PinLemmas.{get_or-turned_to, turned_to-next}
use Rattle.profile_card.proofs.pins.set_pin.Goals as goal

pub loop-pin-preserved : goal.loop-pin-preserved
loop-pin-preserved c =
    let turn : PinRow → PinRow = λ pin. if pin.number == c.args.set.now.number then c.args.set.now else pin in
    rw (c.set_one.ensures, c.loop-pin.invariant, get_or-turned_to turn c.loop-pin.pin-index c.args.pins.now c.pin-item.result, add-one)
    (turned_to-next turn c.loop-pin.pin-index c.args.pins.now c.pin-item.result c.loop-pin-test.true)
