use Rattle.record_codec.proofs.LengthLemmas.{short_where}
use Rattle.record_codec.proofs.laws.fitting_records_are_short.Goals as goal

pub returns : goal.returns
returns c = short_where
