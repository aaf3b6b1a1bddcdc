use Rattle.file_rows.specs.FileHead.{Holds}
use Rattle.file_rows.specs.declared.row.FileRow.{FileRow}
use Rattle.file_rows.proofs.ListLemmas.{any_of_map, map_of_any}
use Rattle.file_rows.proofs.fits.has_place.Goals as goal

pub returns : goal.returns
returns c = (
  λ e. map_of_any (λ (row : FileRow). row.head) (λ directory. Holds directory c.args.file.now) c.args.rows.now (c.has_directory.ensures.0 e),
  λ any. c.has_directory.ensures.1 (any_of_map (λ (row : FileRow). row.head) (λ directory. Holds directory c.args.file.now) c.args.rows.now any),
)
