use Rattle.ber_tlv.proofs.Walking.{same_walk}
use Rattle.ber_tlv.proofs.laws.one_walk.Goals as goal

pub returns : goal.returns
returns c = same_walk
