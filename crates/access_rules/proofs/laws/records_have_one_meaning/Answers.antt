use Rattle.access_rules.proofs.Meaning.{one_meaning}
use Rattle.access_rules.proofs.laws.records_have_one_meaning.Goals as goal

pub returns : goal.returns
returns c = one_meaning
