use Rattle.file_rows.specs.Change.{IsRecordFor}
use Rattle.card_journal.proofs.PoolFitLemmas.{record_alike, tested_none, tested_row}
use Rattle.card_journal.proofs.pool.pooled.PooledContent.is_record_of.Goals as goal

pub returns-in-Some : goal.returns-in-Some
returns-in-Some c =
    tested_row c.args.self.now c.args.path.now c.in-Some.head.now c.is_record_for.result
    (λ row. IsRecordFor row c.args.number c.args.bytes.now)
    (rw c.heads.ensures at c.in-Some.ensures.found)
    (λ row found same.
    record_alike row c.in-Some.head.now c.args.number c.args.bytes.now same c.is_record_for.result
    c.is_record_for.ensures)

pub returns-in-None : goal.returns-in-None
returns-in-None c =
    tested_none c.args.self.now c.args.path.now
    (λ row. IsRecordFor row c.args.number c.args.bytes.now)
    (rw c.heads.ensures at c.in-None.ensures.none)
