use Rattle.file_rows.proofs.ConditionLemmas.{fits_where}
use Rattle.file_rows.proofs.laws.changes_fit_by_kind.Goals as goal

pub returns : goal.returns
returns c = fits_where
