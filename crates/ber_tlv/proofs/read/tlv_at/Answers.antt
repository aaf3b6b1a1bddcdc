use Rattle.std.proofs.Common.{arith}
use Rattle.std.proofs.lemmas.Result.{err_from_is_err_and}
use Rattle.ber_tlv.proofs.Refusal.{refused_at_tag, refused_at_length, refused_at_value, stands_at}
use Rattle.ber_tlv.proofs.read.tlv_at.Goals as goal

pub returns-in_err-tag : goal.returns-in_err-tag
returns-in_err-tag c =
    let p = err_from_is_err_and c.from_residual.result c.from_residual.ensures.1 in
    rw (p.1, p.2) (refused_at_tag _ _ c.in_err-tag.ensures)

pub returns-in_err-length : goal.returns-in_err-length
returns-in_err-length c =
    let p = err_from_is_err_and c.from_residual-in_err-length.result c.from_residual-in_err-length.ensures.1 in
    rw (p.1, p.2) (refused_at_length _ _ _ _ c.in_ok-tag.ensures c.in_err-length.ensures)

pub returns-then-rest-length : goal.returns-then-rest-length
returns-then-rest-length c = refused_at_value _ _ _ _ _ c.in_ok-tag.ensures c.in_ok-length.ensures (omega arith)

pub returns : goal.returns
returns c = stands_at _ _ _ _ _ c.in_ok-tag.ensures c.in_ok-length.ensures (omega arith)
