use Rattle.file_rows.proofs.FindLemmas.{found_by_sfi}
use Rattle.file_rows.proofs.laws.one_file_has_an_sfi.Goals as goal

pub returns : goal.returns
returns c = found_by_sfi
