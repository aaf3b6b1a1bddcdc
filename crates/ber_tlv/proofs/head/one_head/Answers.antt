use Rattle.ber_tlv.proofs.Heads.{same_head}
use Rattle.ber_tlv.proofs.head.one_head.Goals as goal

pub returns : goal.returns
returns c = same_head
