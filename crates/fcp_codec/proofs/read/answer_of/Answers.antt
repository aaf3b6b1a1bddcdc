use Rattle.std.proofs.lemmas.Result.{err_from_is_err_and}
use Rattle.ber_tlv.specs.Walk.{object_of}
use Rattle.fcp_codec.proofs.Answering.{gone_on, stopped}
use Rattle.fcp_codec.proofs.read.answer_of.Goals as goal

pub loop-item-preserved : goal.loop-item-preserved
loop-item-preserved c =
    let h = c.in_ok-take-in-Ok.ensures in
    let s = c.in-Some.ensures.steps in
    let e = c.in-Ok.is in
    gone_on _ c.loop-item.item-iterator _ (object_of c.in-Ok.tlv) _ _ c.loop-item.invariant (rw e at s) h

pub returns-in_err-take-in-Ok : goal.returns-in_err-take-in-Ok
returns-in_err-take-in-Ok c =
    let p = err_from_is_err_and c.from_residual.result c.from_residual.ensures.1 in
    let s = c.in-Some.ensures.steps in
    let e = c.in-Ok.is in
    rw (p.1, p.2) (stopped _ c.loop-item.item-iterator _ (object_of c.in-Ok.tlv) _ c.take.new.self _ c.loop-item.invariant (rw e at s) c.in_err-take-in-Ok.ensures)
