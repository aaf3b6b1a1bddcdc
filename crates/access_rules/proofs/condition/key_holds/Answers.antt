use Rattle.std.proofs.Common.{ap, inl, inr, sym, ◌∙◌, Some, option_map}
use Rattle.std.proofs.lemmas.Result.{err_from_is_err_and}
use Rattle.access_rules.specs.KeySet.{has}
use Rattle.access_rules.proofs.Deciding.{fault_is, value_is}
use Rattle.access_rules.proofs.Keys.{found, gave_up, is_empty, no_qualifier, no_reference, no_usage}
use Rattle.access_rules.proofs.Keys.{not_empty, other_qualifier, other_tags, refused, the_key}
use Rattle.access_rules.proofs.Keys.{too_many}
use Rattle.access_rules.proofs.condition.key_holds.Goals as goal
use Rattle.access_rules.proofs.condition.key_holds.Goals.{then-reference-ne131-via-then-reference-ne131}
use Rattle.access_rules.proofs.condition.key_holds.Goals.{then-reference-ne131-via-else-reference-ne131+then-usage-ne149}
use Rattle.access_rules.proofs.condition.key_holds.Goals.{then-reference-ne131-via-else-reference-ne131+else-usage-ne149+then-not-is_empty}

pub returns-in_err-reference : goal.returns-in_err-reference
returns-in_err-reference c =
    let p = err_from_is_err_and c.from_residual.result c.from_residual.ensures.1 in
    gave_up _ _ _ p.1 (ap (option_map (has c.args.met.now)) (no_reference c.args.value.now c.in_err-reference.ensures))

pub returns-in_err-usage : goal.returns-in_err-usage
returns-in_err-usage c =
    let p = err_from_is_err_and c.from_residual-in_err-usage.result c.from_residual-in_err-usage.ensures.1 in
    gave_up _ _ _ p.1 (ap (option_map (has c.args.met.now)) (no_usage c.args.value.now _ c.in_ok-reference.ensures c.in_err-usage.ensures))

pub returns-then-reference-ne131 : goal.returns-then-reference-ne131
returns-then-reference-ne131 c = refused _ (ap (option_map (has c.args.met.now))
    (elim c.then-reference-ne131.branch [
      | then-reference-ne131-via-then-reference-ne131 w ↦ other_tags c.args.value.now _ _ _ _ c.in_ok-reference.ensures c.in_ok-usage.ensures (inl w.if-reference-ne131.true)
      | then-reference-ne131-via-else-reference-ne131+then-usage-ne149 w ↦ other_tags c.args.value.now _ _ _ _ c.in_ok-reference.ensures c.in_ok-usage.ensures (inr w.if-usage-ne149.true)
      | then-reference-ne131-via-else-reference-ne131+else-usage-ne149+then-not-is_empty w ↦ too_many c.args.value.now _ _ _ _ c.in_ok-reference.ensures c.in_ok-usage.ensures (not_empty _ _ w.is_empty.ensures w.if-not-is_empty.true)
    ]))

pub returns-in_err-only_byte : goal.returns-in_err-only_byte
returns-in_err-only_byte c =
    let p = err_from_is_err_and c.from_residual-in_err-only_byte.result c.from_residual-in_err-only_byte.ensures.1 in
    gave_up _ _ _ p.1 (ap (option_map (has c.args.met.now)) (no_qualifier c.args.value.now _ _ _ _ c.in_ok-reference.ensures c.in_ok-usage.ensures c.if-reference-ne131.false c.if-usage-ne149.false (is_empty _ _ c.is_empty.ensures c.if-not-is_empty.false) (fault_is _ _ c.in_err-only_byte.ensures).0))

pub returns-then-branch-ne8 : goal.returns-then-branch-ne8
returns-then-branch-ne8 c =
    refused _ (ap (option_map (has c.args.met.now)) (other_qualifier c.args.value.now _ _ _ _ c.in_ok-reference.ensures c.in_ok-usage.ensures _ c.if-reference-ne131.false c.if-usage-ne149.false (is_empty _ _ c.is_empty.ensures c.if-not-is_empty.false) (value_is _ _ c.in_ok-only_byte.ensures) c.if-branch-ne8.true))

pub returns-in_err-key : goal.returns-in_err-key
returns-in_err-key c =
    let p = err_from_is_err_and c.from_residual-in_err-key.result c.from_residual-in_err-key.ensures.1 in
    gave_up _ _ _ p.1 (ap (option_map (has c.args.met.now)) (the_key c.args.value.now _ _ _ _ c.in_ok-reference.ensures c.in_ok-usage.ensures _ c.if-reference-ne131.false c.if-usage-ne149.false (is_empty _ _ c.is_empty.ensures c.if-not-is_empty.false) (value_is _ _ c.in_ok-only_byte.ensures) c.if-branch-ne8.false
    ∙ (fault_is _ _ c.in_err-key.ensures).0))

pub returns : goal.returns
returns c =
    let e = the_key c.args.value.now _ _ _ _ c.in_ok-reference.ensures c.in_ok-usage.ensures _ c.if-reference-ne131.false c.if-usage-ne149.false (is_empty _ _ c.is_empty.ensures c.if-not-is_empty.false) (value_is _ _ c.in_ok-only_byte.ensures) c.if-branch-ne8.false
    ∙ value_is _ _ c.in_ok-key.ensures in
    found _ _ (ap (option_map (has c.args.met.now)) e ∙ ap Some (sym c.has.ensures))
