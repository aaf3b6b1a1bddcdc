use Rattle.file_rows.proofs.FormLemmas.{is_in_directory}
use Rattle.file_rows.proofs.form.is_in.Goals as goal

pub returns-in-len1-up : goal.returns-in-len1-up
returns-in-len1-up c = is_in_directory c.args.directory.now c.args.file.now c.eq.result c.in-len1-up.len_at_least c.eq.ensures
