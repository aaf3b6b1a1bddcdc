use Rattle.file_rows.specs.FileHead.{Holds}
use Rattle.file_rows.specs.declared.head.FileHead.{FileHead}
use Rattle.file_rows.specs.declared.row.FileRow.{FileRow}
use Rattle.file_rows.proofs.ListLemmas.{any_of_map, map_of_any}
use Rattle.card_journal.proofs.pool.pooled.PooledContent.has_place.Goals as goal

pub returns : goal.returns
returns c =
    let test = rw c.heads.ensures at c.has_directory.ensures in
    let holds : FileHead → Type 0 = λ directory. Holds directory c.args.file.now in
    let rows = c.args.self.now.rows in (
      λ e. map_of_any (λ (row : FileRow). row.head) holds
          rows (test.0 e),
      λ any. test.1 (any_of_map (λ (row : FileRow). row.head) holds
          rows any),
    )
