use Rattle.record_codec.proofs.FitLemmas.{fits_where}
use Rattle.record_codec.proofs.laws.records_fit_by_kind.Goals as goal

pub returns : goal.returns
returns c = fits_where
