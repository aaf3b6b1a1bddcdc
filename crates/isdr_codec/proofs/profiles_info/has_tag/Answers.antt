use Rattle.isdr_codec.proofs.FieldLemmas.{is_empty, not_empty}
use Rattle.isdr_codec.proofs.TagLemmas.{at_first, broken, ended, next}
use Rattle.isdr_codec.proofs.profiles_info.has_tag.Goals as goal

pub loop-rest-init : goal.loop-rest-init
loop-rest-init c = at_first c.args.tag c.args.bytes.now

pub returns-in_err-other : goal.returns-in_err-other
returns-in_err-other c =
    rw c.from_residual.ensures
    (rw (broken c.args.tag _ c.args.bytes.now c.loop-rest.rest.now
    (c.in_err-other.ensures.tag (not_empty _ _ c.is_empty.ensures c.loop-rest-test.true))
    c.loop-rest.invariant))

pub loop-rest-preserved : goal.loop-rest-preserved
loop-rest-preserved c = next c.args.tag c.in_ok-other.other c.loop-rest.listed c.args.bytes.now
    c.loop-rest.rest.now c.in_ok-other.behind.now c.in_ok-other.ensures.tag c.loop-rest.invariant

pub returns : goal.returns
returns c = ended c.args.tag _ c.args.bytes.now c.loop-rest.rest.now
    (is_empty _ _ c.is_empty.ensures c.loop-rest-test.false) c.loop-rest.invariant
