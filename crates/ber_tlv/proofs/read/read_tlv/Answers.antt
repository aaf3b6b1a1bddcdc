use Rattle.ber_tlv.proofs.Refusal.{exact_fault, finds, not_refused}
use Rattle.ber_tlv.proofs.read.read_tlv.Goals as goal

pub returns-clause-only : goal.returns-clause-only
returns-clause-only c = finds c.tlv_at.result c.args.bytes.now c.tlv_at.ensures

pub returns-clause-refused : goal.returns-clause-refused
returns-clause-refused c =
    exact_fault c.tlv_at.result _ c.args.bytes.now c.tlv_at.ensures (λ x p. not_refused _ _ _ _ p.begins)
