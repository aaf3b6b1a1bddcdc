use Rattle.ber_tlv.proofs.Reading.{one_tlv}
use Rattle.ber_tlv.proofs.laws.one_reading.Goals as goal

pub returns : goal.returns
returns c = one_tlv
