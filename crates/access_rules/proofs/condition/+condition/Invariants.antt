use Rattle.std.proofs.Common.{◌≡◌, ◌+◌, ◌*◌, length}
use Rattle.std.specs.Prelude.{◌&&◌, ◌||◌, option_map}
use Rattle.access_rules.specs.Condition.{all_hold, one_holds}
use Rattle.access_rules.specs.KeySet.{has}
use Rattle.access_rules.proofs.Deciding.{listed}
use Rattle.access_rules.proofs.condition.+condition.Given as goal

abbrev pub decreases-all_hold : goal.decreases-all_hold
decreases-all_hold l = 2 * l.deepest + 1

abbrev pub decreases-condition_holds : goal.decreases-condition_holds
decreases-condition_holds l = 2 * l.deepest

abbrev pub decreases-one_holds : goal.decreases-one_holds
decreases-one_holds l = 2 * l.deepest + 1

abbrev pub invariant-all_hold-loop-rest : goal.invariant-all_hold-loop-rest
invariant-all_hold-loop-rest l =
    listed (has l.met) (all_hold (has l.met)) ◌&&◌ l.deepest l.fn.value ≡ option_map (λ b. l.hold && b) (listed (has l.met) (all_hold (has l.met)) ◌&&◌ l.deepest l.rest)

abbrev pub decreases-all_hold-loop-rest : goal.decreases-all_hold-loop-rest
decreases-all_hold-loop-rest l = length l.rest

abbrev pub invariant-one_holds-loop-rest : goal.invariant-one_holds-loop-rest
invariant-one_holds-loop-rest l =
    listed (has l.met) (one_holds (has l.met)) ◌||◌ l.deepest l.fn.value ≡ option_map (λ b. l.holds || b) (listed (has l.met) (one_holds (has l.met)) ◌||◌ l.deepest l.rest)

abbrev pub decreases-one_holds-loop-rest : goal.decreases-one_holds-loop-rest
decreases-one_holds-loop-rest l = length l.rest
