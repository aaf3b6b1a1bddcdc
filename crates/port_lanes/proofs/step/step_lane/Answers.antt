use Rattle.std.proofs.Common.{◌≡◌, ◌+◌, true, sym, ◌∙◌, ap, subst}
use Rattle.card_core.specs.Stretch.{is_for}
use Rattle.card_core.specs.declared.event.Event.{Event}
use Rattle.port_lanes.proofs.LaneLemmas.{event_is, has_room, is_for_lane, is_lane, makes_next}
use Rattle.port_lanes.proofs.LaneLemmas.{numbered_next}
use Rattle.port_lanes.specs.Lane.{LaneState}
use Rattle.port_lanes.specs.Step.{MakesNext, StaysInLane, view_of}
use Rattle.port_lanes.proofs.step.step_lane.Goals as goal

pub make-requires-clause-bytes : goal.make-requires-clause-bytes
make-requires-clause-bytes g c =
    has_room (record {
      at = c.lane.inside.at;
      part = c.lane.inside.part;
      ended = c.lane.inside.ended;
      pass = c.lane.inside.pass;
    }) c.in-Some.event.now c.lane.invariant (numbered_next c.lane.inside.part
    c.lane.inside.ended c.lane.inside.at.port.statements c.next-number.result
    c.in-Some.event.now
    (c.next-number.ensures
    ∙ ap (λ (one : LaneState). one.at.port.statements + 1) (sym c.lane.view_is))
    c.in-Some.ensures) c.read-coming.result c.read-coming.ensures.bytes

pub invariant_of-lane : goal.invariant_of-lane
invariant_of-lane g c =
    is_lane (record {
      at = c.lane.inside.at;
      part = c.lane.inside.part;
      ended = c.lane.inside.ended;
      pass = c.lane.inside.pass;
    }) c.in-Some.event.now c.lane.invariant (numbered_next c.lane.inside.part
    c.lane.inside.ended c.lane.inside.at.port.statements c.next-number.result
    c.in-Some.event.now
    (c.next-number.ensures
    ∙ ap (λ (one : LaneState). one.at.port.statements + 1) (sym c.lane.view_is))
    c.in-Some.ensures) c.read-coming.result c.read-coming.ensures.bytes
    _ c.make.new.self c.make.new.pass c.make.ensures.step.1 c.make.ensures.step.3
    c.make.ensures.pass c.make.ensures.load

pub returns-clause-need : goal.returns-clause-need
returns-clause-need g c event next =
    let same : c.in-Some.event.now ≡ event =
    event_is (record {
      at = c.lane.inside.at;
      part = c.lane.inside.part;
      ended = c.lane.inside.ended;
      pass = c.lane.inside.pass;
    }) c.args.lane.now c.next-number.result c.in-Some.event.now event c.lane.view_is
    c.next-number.ensures c.in-Some.ensures next in
    let for : is_for c.lane.inside.at.number c.in-Some.event.now ≡ true =
    is_for_lane (record {
      at = c.lane.inside.at;
      part = c.lane.inside.part;
      ended = c.lane.inside.ended;
      pass = c.lane.inside.pass;
    }) c.in-Some.event.now c.lane.invariant (numbered_next c.lane.inside.part
    c.lane.inside.ended c.lane.inside.at.port.statements c.next-number.result
    c.in-Some.event.now
    (c.next-number.ensures
    ∙ ap (λ (one : LaneState). one.at.port.statements + 1) (sym c.lane.view_is))
    c.in-Some.ensures) in
    let stays : StaysInLane c.lane.inside.at c.in-Some.event.now =
    (c.read-coming.ensures.stays (view_of c.lane.inside.at) c.lane.inside.at.number for).0
    (sym c.needs_all.ensures ∙ c.if-needs_all.false) in
    let here : StaysInLane c.args.lane.now.at event =
    subst (λ (one : Event). StaysInLane c.args.lane.now.at one) same
    (subst (λ (one : LaneState). StaysInLane one.at c.in-Some.event.now) c.lane.view_is stays) in
    ((λ done. absurd cc), (λ none. absurd (none here)))

pub returns-clause-done : goal.returns-clause-done
returns-clause-done g c event next done =
    let same : c.in-Some.event.now ≡ event =
    event_is (record {
      at = c.lane.inside.at;
      part = c.lane.inside.part;
      ended = c.lane.inside.ended;
      pass = c.lane.inside.pass;
    }) c.args.lane.now c.next-number.result c.in-Some.event.now event c.lane.view_is
    c.next-number.ensures c.in-Some.ensures next in
    let for : is_for c.lane.inside.at.number c.in-Some.event.now ≡ true =
    is_for_lane (record {
      at = c.lane.inside.at;
      part = c.lane.inside.part;
      ended = c.lane.inside.ended;
      pass = c.lane.inside.pass;
    }) c.in-Some.event.now c.lane.invariant (numbered_next c.lane.inside.part
    c.lane.inside.ended c.lane.inside.at.port.statements c.next-number.result
    c.in-Some.event.now
    (c.next-number.ensures
    ∙ ap (λ (one : LaneState). one.at.port.statements + 1) (sym c.lane.view_is))
    c.in-Some.ensures) in
    subst (λ (one : Event). MakesNext g.N.SectionName.begun.held
    (g.K.Keeper.may_come c.args.lane.now.pass.port)
    (g.K.Keeper.known c.args.keeper.now c.args.lane.now.pass)
    (g.K.Keeper.known c.make.new.keeper c.make.new.pass) c.args.lane.now
    (record {
      at = c.make.new.self;
      part = c.lane.inside.part;
      ended = c.lane.inside.ended;
      pass = c.make.new.pass;
    }) one) same
    (subst (λ (lane : LaneState). MakesNext g.N.SectionName.begun.held
    (g.K.Keeper.may_come lane.pass.port) (g.K.Keeper.known c.args.keeper.now lane.pass)
    (g.K.Keeper.known c.make.new.keeper c.make.new.pass) lane
    (record {
      at = c.make.new.self;
      part = c.lane.inside.part;
      ended = c.lane.inside.ended;
      pass = c.make.new.pass;
    }) c.in-Some.event.now) c.lane.view_is
    (makes_next _ _ _ _ (record {
      at = c.lane.inside.at;
      part = c.lane.inside.part;
      ended = c.lane.inside.ended;
      pass = c.lane.inside.pass;
    }) c.make.new.self c.make.new.pass c.in-Some.event.now c.read-coming.result
    c.make.ensures.step.0 c.make.ensures.step.1 for c.read-coming.ensures.comes
    c.make.ensures.pass c.make.ensures.step.2 c.make.ensures.step.3))
