use Rattle.std.proofs.Common.{ap, sym, ◌∙◌, Some}
use Rattle.std.proofs.lemmas.Result.{err_from_is_err_and}
use Rattle.access_rules.specs.KeySet.{has}
use Rattle.access_rules.proofs.Keys.{found, gave_up, is_not, is_so}
use Rattle.access_rules.proofs.Passing.{at_end, broken_rule, next_rule, rule_behind_shorter}
use Rattle.access_rules.proofs.rules.decide.Goals as goal

pub returns-in_err-answer : goal.returns-in_err-answer
returns-in_err-answer c =
    let p = err_from_is_err_and c.from_residual.result c.from_residual.ensures.1 in
    gave_up _ _ _ p.1 (c.loop-rest.invariant ∙ broken_rule c.args.mode (has c.args.met.now) c.loop-rest.decided c.loop-rest.rest.now (is_not _ _ c.is_ended.ensures c.loop-rest-test.true) c.in_err-answer.ensures)

pub loop-rest-smaller : goal.loop-rest-smaller
loop-rest-smaller c = rule_behind_shorter c.args.mode (has c.args.met.now) _ c.loop-rest.rest.now _ c.in_ok-answer.ensures

pub loop-rest-preserved : goal.loop-rest-preserved
loop-rest-preserved c = rw c.or-decided.ensures (next_rule c.args.mode (has c.args.met.now) _ c.loop-rest.decided c.in_ok-answer.answer c.loop-rest.rest.now c.in_ok-answer.behind.now
    (is_not _ _ c.is_ended.ensures c.loop-rest-test.true) c.in_ok-answer.ensures c.loop-rest.invariant)

pub returns : goal.returns
returns c = found _ _ (c.loop-rest.invariant
    ∙ at_end c.args.mode (has c.args.met.now) c.loop-rest.decided c.loop-rest.rest.now (is_so _ _ c.is_ended.ensures c.loop-rest-test.false)
    ∙ ap Some (sym c.unwrap_or.ensures))
