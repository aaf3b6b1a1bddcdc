use Rattle.ber_tlv.proofs.Walking.{drained}
use Rattle.ber_tlv.proofs.walk.Walk.new.Goals as goal

pub returns-clause-whole : goal.returns-clause-whole
returns-clause-whole c = λ items. drained items _
