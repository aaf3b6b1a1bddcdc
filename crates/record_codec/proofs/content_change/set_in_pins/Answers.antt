use Rattle.std.proofs.Common.{◌≡◌, ◌∙◌, cond, nat_eq, set, sym, ap, subst}
use Rattle.std.proofs.lemmas.List.Edits.{map_over_more}
use Rattle.file_rows.specs.declared.pin.PinRow.{PinRow}
use Rattle.record_codec.proofs.content_change.set_in_pins.Goals as goal

pub loop-pin-preserved : goal.loop-pin-preserved
loop-pin-preserved c =
    let f : PinRow → PinRow = λ pin. cond (nat_eq pin.number c.args.set.now.number) c.args.set.now pin in
    let pins = c.loop-pin.pins in
    let i = c.loop-pin.pin-index in
    ap (λ (pin : PinRow). set pins i pin) (subst (λ (pin : PinRow). c.set_one.new.pin ≡ f pin) (sym c.pin-item.is) c.set_one.ensures)
    ∙ map_over_more f c.args.pins.now pins i c.pin-item.result c.loop-pin-test.true c.loop-pin.invariant c.pin-item.is
