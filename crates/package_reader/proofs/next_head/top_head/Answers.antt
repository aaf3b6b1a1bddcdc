use Rattle.std.proofs.Common.{subst}
use Rattle.ber_tlv.specs.Head.{RefusesHead}
use Rattle.ber_tlv.specs.declared.fault.TlvFault.{TlvFault}
use Rattle.package_reader.proofs.next_head.top_head.Goals as goal

pub returns-in-Ok : goal.returns-in-Ok
returns-in-Ok c =
    let e = c.in-Ok.ensures in
    (e.within, e.limits.0, e.limits.2, tt, e.found)

pub returns-in-Err-Short : goal.returns-in-Err-Short
returns-in-Err-Short c =
    let e = c.in-Err-Short.ensures in
    (subst (λ (f : TlvFault). RefusesHead c.args.unread.now f) c.in-Err-Short.field-0-is e.refused, tt)
