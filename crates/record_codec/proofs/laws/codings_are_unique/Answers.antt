use Rattle.record_codec.proofs.AgainLemmas.{one_record}
use Rattle.record_codec.proofs.laws.codings_are_unique.Goals as goal

pub returns-clause-entry : goal.returns-clause-entry
returns-clause-entry c = one_record
