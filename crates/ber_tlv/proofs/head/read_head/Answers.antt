use Rattle.std.proofs.lemmas.Result.{err_from_is_err_and}
use Rattle.ber_tlv.proofs.Heads.{head_refused_at_tag, head_refused_at_length, head_at, head_takes}
use Rattle.ber_tlv.proofs.head.read_head.Goals as goal

pub returns-in_err-tag-clause-refused : goal.returns-in_err-tag-clause-refused
returns-in_err-tag-clause-refused c =
    let p = err_from_is_err_and c.from_residual.result c.from_residual.ensures.1 in
    rw (p.1, p.2) (head_refused_at_tag _ _ c.in_err-tag.ensures)

pub returns-in_err-length-clause-refused : goal.returns-in_err-length-clause-refused
returns-in_err-length-clause-refused c =
    let p = err_from_is_err_and c.from_residual-in_err-length.result c.from_residual-in_err-length.ensures.1 in
    rw (p.1, p.2) (head_refused_at_length _ _ _ _ c.in_ok-tag.ensures c.in_err-length.ensures)

pub returns-clause-found : goal.returns-clause-found
returns-clause-found c = head_at _ _ _ _ _ c.in_ok-tag.ensures c.in_ok-length.ensures

pub returns-clause-limits : goal.returns-clause-limits
returns-clause-limits c = head_takes _ _ _ _ _ c.in_ok-tag.ensures c.in_ok-length.ensures
