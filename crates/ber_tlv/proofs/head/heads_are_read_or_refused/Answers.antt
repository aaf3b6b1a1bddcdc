use Rattle.ber_tlv.proofs.Heads.{not_refused_head, one_head_refusal}
use Rattle.ber_tlv.proofs.head.heads_are_read_or_refused.Goals as goal

pub returns : goal.returns
returns c = record { read = not_refused_head; one_reason = one_head_refusal }
