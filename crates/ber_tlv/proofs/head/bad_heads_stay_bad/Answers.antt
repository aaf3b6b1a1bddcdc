use Rattle.ber_tlv.proofs.Heads.{bad_tag_stays, bad_length_stays}
use Rattle.ber_tlv.proofs.head.bad_heads_stay_bad.Goals as goal

pub returns : goal.returns
returns c = record { tag = bad_tag_stays; size = bad_length_stays }
