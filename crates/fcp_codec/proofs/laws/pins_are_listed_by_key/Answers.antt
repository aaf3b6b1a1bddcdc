use Rattle.fcp_codec.proofs.KeyLemmas.{keys_ascend, keys_listed}
use Rattle.fcp_codec.proofs.laws.pins_are_listed_by_key.Goals as goal

pub returns-clause-ascending : goal.returns-clause-ascending
returns-clause-ascending c = keys_ascend

pub returns-clause-listed : goal.returns-clause-listed
returns-clause-listed c = keys_listed
