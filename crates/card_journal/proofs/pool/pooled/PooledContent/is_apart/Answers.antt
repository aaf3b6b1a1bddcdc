use Rattle.file_rows.specs.Apart.{AreFilesApart}
use Rattle.file_rows.specs.declared.row.FileRow.{FileRow}
use Rattle.file_rows.proofs.EachLemmas.{each_of_map}
use Rattle.card_journal.proofs.pool.pooled.PooledContent.is_apart.Goals as goal

pub returns : goal.returns
returns c =
    let test = rw c.heads.ensures at c.are_apart_from.ensures in
    let map = each_of_map (λ (row : FileRow). row.head)
    (λ head. AreFilesApart head c.args.file.now) c.args.self.now.rows in (
      λ e. map.1 (test.0 e),
      λ each. test.1 (map.0 each),
    )
