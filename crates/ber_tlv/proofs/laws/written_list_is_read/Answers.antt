use Rattle.ber_tlv.proofs.Walking.{lead_with_spelled}
use Rattle.ber_tlv.proofs.laws.written_list_is_read.Goals as goal

pub returns : goal.returns
returns c = lead_with_spelled
