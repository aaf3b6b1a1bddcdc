use Rattle.std.proofs.Common.{ap, arith, refl, ◌∙◌}
use Rattle.std.specs.Prelude.{◌&&◌, ◌||◌, option_map}
use Rattle.std.proofs.lemmas.Result.{err_from_is_err_and}
use Rattle.ber_tlv.specs.Walk.{object_of}
use Rattle.access_rules.specs.Condition.{all_hold, one_holds}
use Rattle.access_rules.specs.KeySet.{has}
use Rattle.access_rules.proofs.Deciding.{all_ended, always, and_together, behind_shorter, by_all}
use Rattle.access_rules.proofs.Deciding.{by_key, by_none, by_one, fault_is, handed, listed_broken}
use Rattle.access_rules.proofs.Deciding.{listed_malformed, never, none_answered, one_ended}
use Rattle.access_rules.proofs.Deciding.{or_together, so_far, too_deep_at, within}
use Rattle.access_rules.proofs.Keys.{found, gave_up, is_empty, not_empty, refused}
use Rattle.access_rules.proofs.condition.+condition.Goals as goal

pub one_holds-returns-in_err-object : goal.one_holds-returns-in_err-object
one_holds-returns-in_err-object t c =
    let p = err_from_is_err_and c.from_residual.result c.from_residual.ensures.1 in
    gave_up _ _ _ p.1 (c.loop-rest.invariant ∙ ap (option_map (◌||◌ c.loop-rest.holds)) (listed_broken (has c.args.met.now) (one_holds (has c.args.met.now)) ◌||◌ c.args.deepest c.loop-rest.rest.now (not_empty _ _ c.is_empty.ensures c.loop-rest-test.true) c.in_err-object.ensures))

pub one_holds-returns-in_err-holds : goal.one_holds-returns-in_err-holds
one_holds-returns-in_err-holds t c =
    let p = err_from_is_err_and c.from_residual-in_err-holds.result c.from_residual-in_err-holds.ensures.1 in
    gave_up _ _ _ p.1 (c.loop-rest.invariant ∙ ap (option_map (◌||◌ c.loop-rest.holds)) (listed_malformed (has c.args.met.now) (one_holds (has c.args.met.now)) ◌||◌ c.args.deepest c.loop-rest.rest.now _ c.in_ok-object.ensures
    (none_answered _ _ (fault_is _ _ c.in_err-holds.ensures).0)))

pub one_holds-returns : goal.one_holds-returns
one_holds-returns t c =
    found _ _ (one_ended (has c.args.met.now) c.args.deepest _ c.loop-rest.rest.now c.loop-rest.holds (is_empty _ _ c.is_empty.ensures c.loop-rest-test.false) c.loop-rest.invariant)

pub one_holds-loop-rest-preserved : goal.one_holds-loop-rest-preserved
one_holds-loop-rest-preserved t c =
    so_far (has c.args.met.now) (one_holds (has c.args.met.now)) ◌||◌ c.args.deepest _ c.loop-rest.rest.now _ c.in_ok-holds.field-0 c.loop-rest.holds
    c.in_ok-object.ensures c.in_ok-holds.ensures (λ x xs. refl) or_together c.loop-rest.invariant

pub one_holds-loop-rest-smaller : goal.one_holds-loop-rest-smaller
one_holds-loop-rest-smaller t c = behind_shorter c.loop-rest.rest.now _ c.in_ok-object.ensures

pub all_hold-returns-in_err-object : goal.all_hold-returns-in_err-object
all_hold-returns-in_err-object t c =
    let p = err_from_is_err_and c.from_residual.result c.from_residual.ensures.1 in
    gave_up _ _ _ p.1 (c.loop-rest.invariant ∙ ap (option_map (◌&&◌ c.loop-rest.hold)) (listed_broken (has c.args.met.now) (all_hold (has c.args.met.now)) ◌&&◌ c.args.deepest c.loop-rest.rest.now (not_empty _ _ c.is_empty.ensures c.loop-rest-test.true) c.in_err-object.ensures))

pub all_hold-returns-in_err-hold : goal.all_hold-returns-in_err-hold
all_hold-returns-in_err-hold t c =
    let p = err_from_is_err_and c.from_residual-in_err-hold.result c.from_residual-in_err-hold.ensures.1 in
    gave_up _ _ _ p.1 (c.loop-rest.invariant ∙ ap (option_map (◌&&◌ c.loop-rest.hold)) (listed_malformed (has c.args.met.now) (all_hold (has c.args.met.now)) ◌&&◌ c.args.deepest c.loop-rest.rest.now _ c.in_ok-object.ensures
    (none_answered _ _ (fault_is _ _ c.in_err-hold.ensures).0)))

pub all_hold-returns : goal.all_hold-returns
all_hold-returns t c =
    found _ _ (all_ended (has c.args.met.now) c.args.deepest _ c.loop-rest.rest.now c.loop-rest.hold (is_empty _ _ c.is_empty.ensures c.loop-rest-test.false) c.loop-rest.invariant)

pub all_hold-loop-rest-preserved : goal.all_hold-loop-rest-preserved
all_hold-loop-rest-preserved t c =
    so_far (has c.args.met.now) (all_hold (has c.args.met.now)) ◌&&◌ c.args.deepest _ c.loop-rest.rest.now _ c.in_ok-hold.field-0 c.loop-rest.hold
    c.in_ok-object.ensures c.in_ok-hold.ensures (λ x xs. refl) and_together c.loop-rest.invariant

pub all_hold-loop-rest-smaller : goal.all_hold-loop-rest-smaller
all_hold-loop-rest-smaller t c = behind_shorter c.loop-rest.rest.now _ c.in_ok-object.ensures

pub condition_holds-returns-then-deepest-eq0 : goal.condition_holds-returns-then-deepest-eq0
condition_holds-returns-then-deepest-eq0 t c = refused _ (too_deep_at (has c.args.met.now) (object_of c.args.object) c.args.deepest c.if-deepest-eq0.true)

pub condition_holds-returns-in-144 : goal.condition_holds-returns-in-144
condition_holds-returns-in-144 t c = handed _ _ _ c.where_empty.ensures (within (has c.args.met.now) (object_of c.args.object) c.args.deepest _ c.if-deepest-eq0.false (always (has c.args.met.now) (object_of c.args.object) _ c.in-144.is))

pub condition_holds-returns-in-151 : goal.condition_holds-returns-in-151
condition_holds-returns-in-151 t c = handed _ _ _ c.where_empty-in-151.ensures (within (has c.args.met.now) (object_of c.args.object) c.args.deepest _ c.if-deepest-eq0.false (never (has c.args.met.now) (object_of c.args.object) _ c.in-151.is))

pub condition_holds-returns-in-164 : goal.condition_holds-returns-in-164
condition_holds-returns-in-164 t c = handed _ _ _ c.key_holds.ensures (within (has c.args.met.now) (object_of c.args.object) c.args.deepest _ c.if-deepest-eq0.false (by_key (has c.args.met.now) (object_of c.args.object) _ c.in-164.is))

pub condition_holds-returns-in-160 : goal.condition_holds-returns-in-160
condition_holds-returns-in-160 t c = handed _ _ _ c.one_holds.ensures (within (has c.args.met.now) (object_of c.args.object) c.args.deepest _ c.if-deepest-eq0.false (by_one (has c.args.met.now) (object_of c.args.object) _ c.in-160.is))

pub condition_holds-returns-in-175 : goal.condition_holds-returns-in-175
condition_holds-returns-in-175 t c = handed _ _ _ c.all_hold.ensures (within (has c.args.met.now) (object_of c.args.object) c.args.deepest _ c.if-deepest-eq0.false (by_all (has c.args.met.now) (object_of c.args.object) _ c.in-175.is))

pub condition_holds-returns-in_default : goal.condition_holds-returns-in_default
condition_holds-returns-in_default t c = refused _ (by_none (has c.args.met.now) (object_of c.args.object) c.args.deepest (λ e. omega arith) (λ e. omega arith) (λ e. omega arith) (λ e. omega arith) (λ e. omega arith))
