use Rattle.std.proofs.Common.{Bool, Option, ap, sym, ◌∙◌, Some}
use Rattle.std.proofs.lemmas.Result.{err_from_is_err_and}
use Rattle.ber_tlv.specs.Walk.{object_of}
use Rattle.access_rules.specs.AccessRule.{covers}
use Rattle.access_rules.specs.KeySet.{has}
use Rattle.access_rules.specs.Reading.{modes_of}
use Rattle.access_rules.proofs.Deciding.{fault_is, none_answered, value_is}
use Rattle.access_rules.proofs.Keys.{failed}
use Rattle.access_rules.proofs.Passing.{had, no_condition, no_condition_object, no_modes}
use Rattle.access_rules.proofs.Passing.{no_modes_object, none_covered, the_rule, then_some_is}
use Rattle.access_rules.proofs.rules.first_rule.Goals as goal

pub returns-in_err-modes : goal.returns-in_err-modes
returns-in_err-modes c =
    let p = err_from_is_err_and c.from_residual.result c.from_residual.ensures.1 in
    failed _ _ _ _ p.1 (no_modes_object c.args.bytes.now c.in_err-modes.ensures)

pub returns-in_err-covers : goal.returns-in_err-covers
returns-in_err-covers c =
    let p = err_from_is_err_and c.from_residual-in_err-covers.result c.from_residual-in_err-covers.ensures.1 in
    failed _ _ _ _ p.1 (no_modes c.args.bytes.now _ _ c.in_ok-modes.ensures (none_covered _ _ (fault_is _ _ c.in_err-covers.ensures).0))

pub returns-in_err-condition : goal.returns-in_err-condition
returns-in_err-condition c =
    let p = err_from_is_err_and c.from_residual-in_err-condition.result c.from_residual-in_err-condition.ensures.1 in
    let m = had (λ modes. covers modes c.args.mode) (modes_of (object_of c.in_ok-modes.modes)) _ (value_is _ _ c.in_ok-covers.ensures) in
    failed _ _ _ _ p.1 (no_condition_object c.args.bytes.now _ _ m.0 c.in_ok-modes.ensures m.1 c.in_err-condition.ensures)

pub returns-in_err-holds : goal.returns-in_err-holds
returns-in_err-holds c =
    let p = err_from_is_err_and c.from_residual-in_err-holds.result c.from_residual-in_err-holds.ensures.1 in
    let m = had (λ modes. covers modes c.args.mode) (modes_of (object_of c.in_ok-modes.modes)) _ (value_is _ _ c.in_ok-covers.ensures) in
    failed _ _ _ _ p.1 (no_condition c.args.bytes.now _ _ _ _ m.0 c.in_ok-modes.ensures m.1 c.in_ok-condition.ensures (none_answered _ _ (fault_is _ _ c.in_err-holds.ensures).0))

pub returns : goal.returns
returns c =
    let e = the_rule c.args.bytes.now c.args.mode (has c.args.met.now) _ _ _ _ _ _ c.in_ok-modes.ensures (value_is _ _ c.in_ok-covers.ensures) c.in_ok-condition.ensures (value_is _ _ c.in_ok-holds.ensures) in
    e ∙ ap (λ (o : Option Bool). Some (o, c.in_ok-condition.rest.now)) (sym (then_some_is c.in_ok-covers.covers c.in_ok-holds.holds) ∙ sym c.then_some.ensures)
