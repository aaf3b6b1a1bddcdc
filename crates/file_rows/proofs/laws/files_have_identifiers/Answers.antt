use Rattle.file_rows.proofs.PathLemmas.{is_in-is, own_id-append, parent_is}
use Rattle.file_rows.proofs.laws.files_have_identifiers.Goals as goal

pub returns-clause-of_file : goal.returns-clause-of_file
returns-clause-of_file c = own_id-append

pub returns-clause-above_file : goal.returns-clause-above_file
returns-clause-above_file c = parent_is

pub returns-clause-inside : goal.returns-clause-inside
returns-clause-inside c = is_in-is
