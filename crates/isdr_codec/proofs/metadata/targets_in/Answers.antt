use Rattle.std.proofs.Common.{arith, [], ◌∷◌, length-append}
use Rattle.isdr_codec.proofs.FieldLemmas.{behind_shorter, is_empty, not_empty}
use Rattle.isdr_codec.proofs.TargetLemmas.{at_first, broken, ended, next, past_eight, refused}
use Rattle.isdr_codec.proofs.metadata.targets_in.Goals as goal

pub loop-rest-init : goal.loop-rest-init
loop-rest-init c = record {
  read = rw c.new-targets.ensures (at_first c.args.value.now);
  few = rw c.new-targets.ensures (omega arith);
}

pub returns-in_err-object : goal.returns-in_err-object
returns-in_err-object c =
    rw c.from_residual.ensures (broken c.loop-rest.targets c.args.value.now c.loop-rest.rest.now
    (not_empty _ _ c.is_empty.ensures c.loop-rest-test.true) c.in_err-object.ensures
    c.loop-rest.invariant.read)

pub returns-in_err-target : goal.returns-in_err-target
returns-in_err-target c =
    rw c.from_residual-in_err-target.ensures
    (refused c.loop-rest.targets c.args.value.now c.loop-rest.rest.now _ c.in_ok-object.ensures
    c.in_err-target.ensures c.loop-rest.invariant.read)

pub returns-then-len-eq-MOST_TARGETS : goal.returns-then-len-eq-MOST_TARGETS
returns-then-len-eq-MOST_TARGETS c =
    past_eight c.loop-rest.targets c.args.value.now c.loop-rest.rest.now _ c.in_ok-object.ensures
    (grind arith) c.loop-rest.invariant.read

pub loop-rest-smaller : goal.loop-rest-smaller
loop-rest-smaller c = behind_shorter c.loop-rest.rest.now _ c.in_ok-object.ensures

pub loop-rest-preserved : goal.loop-rest-preserved
loop-rest-preserved c = record {
  read =
      rw c.push.ensures
      (next c.loop-rest.targets c.args.value.now c.loop-rest.rest.now _ _ c.in_ok-object.ensures
      c.in_ok-target.ensures c.loop-rest.invariant.read);
  few =
      rw c.push.ensures
      (omega (
        arith,
        length-append c.loop-rest.targets (c.in_ok-target.target ∷ []),
        c.loop-rest.invariant.few,
        c.if-len-eq-MOST_TARGETS.false,
        c.len.ensures.value,
      ));
}

pub returns : goal.returns
returns c =
    ended c.loop-rest.targets c.args.value.now c.loop-rest.rest.now
    (is_empty _ _ c.is_empty.ensures c.loop-rest-test.false) c.loop-rest.invariant.few
    c.loop-rest.invariant.read
