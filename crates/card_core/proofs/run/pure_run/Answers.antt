use Rattle.std.proofs.Common.{◌+◌, ◌++◌, ◌∷◌, [], ℕ, List, take, arith, subst, sym}
use Rattle.std.proofs.lemmas.List.{take_all}
use Rattle.std.specs.List.{sum_by}
use Rattle.record_codec.specs.IsDurable.{IsDurable}
use Rattle.card_core.proofs.AloneRunLemmas.{answered_alone, told_alone}
use Rattle.card_core.proofs.MergeRunLemmas.{runs_as_merged}
use Rattle.card_core.proofs.RunLemmas.{makes_one_more, next_on, next_room, next_sum, next_taken}
use Rattle.card_core.proofs.RunLemmas.{ports_are}
use Rattle.card_core.proofs.SoundLemmas.{opened_sound}
use Rattle.card_core.proofs.StepsLemmas.{SoFarIn, one_more_so_far}
use Rattle.card_core.proofs.WithinLemmas.{AreWithin, Within-makes, Within-ready}
use Rattle.card_core.specs.Run.{package_bytes}
use Rattle.card_core.specs.Statements.{MakesAll}
use Rattle.card_core.specs.Whole.{world_state}
use Rattle.card_core.specs.World.{Made, WorldState, opened}
use Rattle.card_core.specs.declared.entry.Entry.{Entry}
use Rattle.card_core.specs.declared.event.Event.{Event}
use Rattle.card_core.specs.declared.world.World.{World}
use Rattle.card_core.proofs.run.pure_run.Goals as goal

pub make-requires-clause-ready : goal.make-requires-clause-ready
make-requires-clause-ready c =
    let events : List Event = c.args.events.now in
    let index : ℕ = c.loop-event.event-index in
    let event : Event = c.event-item.result in
    let count : ℕ = c.args.start.now.heads.ports.count in
    let world : World = c.loop-event.world in
    Within-ready count index (sum_by package_bytes (take index events)) (world_state world)
    c.loop-event.invariant.within event (ports_are world c.loop-event.invariant.whole)
    (next_on events index event c.loop-event-test.true c.event-item.is count
    c.requires.events.ports)
    (omega (arith, c.loop-event-test.true, c.requires.events.few))
    (next_room events index event c.loop-event-test.true c.event-item.is c.requires.events.bytes)

pub loop-event-preserved : goal.loop-event-preserved
loop-event-preserved c =
    let start : WorldState = opened c.args.start.now in
    let events : List Event = c.args.events.now in
    let index : ℕ = c.loop-event.event-index in
    let event : Event = c.event-item.result in
    let count : ℕ = c.args.start.now.heads.ports.count in
    let world : World = c.loop-event.world in
    let after : World = c.make.new.self in
    let all = c.in_ok-make.ensures in
    let made : Made = all.0 in
    let came = all.2 in
    let bytes : ℕ = sum_by package_bytes (take index events) in
    record {
      made =
          subst (λ (its : List Event). MakesAll start its after.entries (world_state after))
          (sym (next_taken events index event c.loop-event-test.true c.event-item.is))
          (subst (λ (its : List Entry). MakesAll start (take index events ++ event ∷ []) its
          (world_state after)) (sym came.entries)
          (subst (MakesAll start (take index events ++ event ∷ []) (world.entries ++ made.entries))
          (sym came.state)
          (makes_one_more start (take index events) world.entries (world_state world) event made
          c.loop-event.invariant.made all.1)));
      whole = came.whole;
      within =
          subst (λ (n : ℕ). AreWithin count (index + 1) n (world_state after))
          (next_sum events index event c.loop-event-test.true c.event-item.is)
          (subst (AreWithin count (index + 1) (bytes + package_bytes event)) (sym came.state)
          (Within-makes count index bytes (world_state world) c.loop-event.invariant.within event made
          (ports_are world c.loop-event.invariant.whole) all.1));
      so =
          subst (λ (its : List Event). SoFarIn start its after.entries (world_state after))
          (sym (next_taken events index event c.loop-event-test.true c.event-item.is))
          (subst (λ (its : List Entry). SoFarIn start (take index events ++ event ∷ []) its
          (world_state after)) (sym came.entries)
          (subst (SoFarIn start (take index events ++ event ∷ []) (world.entries ++ made.entries))
          (sym came.state)
          (one_more_so_far start (take index events) world.entries (world_state world) event made
          c.loop-event.invariant.so all.1
          (subst (λ (its : WorldState). IsDurable its.durable) came.state came.whole.are))));
    }

pub returns-clause-merged : goal.returns-clause-merged
returns-clause-merged c =
    let start : WorldState = opened c.args.start.now in
    let events : List Event = c.args.events.now in
    let world : World = c.loop-event.world in
    let so : SoFarIn start events world.entries (world_state world) =
    subst (λ (its : List Event). SoFarIn start its world.entries (world_state world))
    (take_all c.loop-event.event-index events (omega (arith, c.loop-event-test.false)))
    c.loop-event.invariant.so in
    record {
      steps = so.steps;
      came = so.came;
      made = so.made;
      lines = so.lines;
      merged = λ phases come.
          runs_as_merged phases c.args.start.now events so.steps (world_state world)
          c.requires.start c.requires.events.ports come so.came so.durable;
    }

pub returns-clause-alone : goal.returns-clause-alone
returns-clause-alone c =
    let start : WorldState = opened c.args.start.now in
    let events : List Event = c.args.events.now in
    let world : World = c.loop-event.world in
    let so : SoFarIn start events world.entries (world_state world) =
    subst (λ (its : List Event). SoFarIn start its world.entries (world_state world))
    (take_all c.loop-event.event-index events (omega (arith, c.loop-event-test.false)))
    c.loop-event.invariant.so in
    record {
      steps = so.steps;
      came = so.came;
      made = so.made;
      lines = so.lines;
      alone = answered_alone start events so.steps (world_state world)
          (opened_sound c.args.start.now c.requires.start) c.requires.events.ports so.came
          so.durable;
      told = told_alone start events so.steps (world_state world)
          (opened_sound c.args.start.now c.requires.start) c.requires.events.ports so.came
          so.durable;
    }
