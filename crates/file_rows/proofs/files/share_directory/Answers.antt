use Rattle.file_rows.proofs.FormLemmas.{share_directory_of}
use Rattle.file_rows.proofs.files.share_directory.Goals as goal

pub returns-in-len1-up : goal.returns-in-len1-up
returns-in-len1-up c = share_directory_of c.args.one.now c.args.other.now c.is_in.result c.in-len1-up.len_at_least c.is_in.ensures
