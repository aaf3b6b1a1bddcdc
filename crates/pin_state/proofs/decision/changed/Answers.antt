use Rattle.std.proofs.Common.{◌≡◌, true, false, refl}
use Rattle.pin_state.specs.SamePin.{same_pin}
use Rattle.pin_state.proofs.decision.changed.Goals as goal

pub returns-then-eq : goal.returns-then-eq
returns-then-eq c =
    let same : true ≡ same_pin c.args.after c.args.pin.now = c.if-eq.ensures {u = tt} in
    rw (← same) refl

pub returns : goal.returns
returns c =
    let differ : false ≡ same_pin c.args.after c.args.pin.now = c.if-eq.ensures {u = tt} in
    rw (← differ) refl
