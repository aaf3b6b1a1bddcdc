use Rattle.isdr_codec.proofs.FieldLemmas.{again, at_first, behind_shorter, broken, ended, is_empty}
use Rattle.isdr_codec.proofs.FieldLemmas.{next, not_empty}
use Rattle.isdr_codec.proofs.fields.field_in.Goals as goal

pub loop-rest-init : goal.loop-rest-init
loop-rest-init c = at_first c.args.tag c.args.value.now

pub returns-in_err-object : goal.returns-in_err-object
returns-in_err-object c =
    rw c.from_residual.ensures (broken c.args.tag _ c.args.value.now c.loop-rest.rest.now
    (not_empty _ _ c.is_empty.ensures c.loop-rest-test.true) c.in_err-object.ensures
    c.loop-rest.invariant)

pub returns-in_err-found : goal.returns-in_err-found
returns-in_err-found c =
    rw c.from_residual-in_err-found.ensures
    (again c.args.tag _ c.args.value.now c.loop-rest.rest.now _ c.in_ok-object.ensures
    c.in_err-found.ensures c.loop-rest.invariant)

pub loop-rest-smaller : goal.loop-rest-smaller
loop-rest-smaller c = behind_shorter c.loop-rest.rest.now _ c.in_ok-object.ensures

pub loop-rest-preserved : goal.loop-rest-preserved
loop-rest-preserved c =
    next c.args.tag _ _ c.args.value.now c.loop-rest.rest.now _ c.in_ok-object.ensures
    c.in_ok-found.ensures c.loop-rest.invariant

pub returns : goal.returns
returns c = ended c.args.tag _ c.args.value.now c.loop-rest.rest.now
    (is_empty _ _ c.is_empty.ensures c.loop-rest-test.false) c.loop-rest.invariant
