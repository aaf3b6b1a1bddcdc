use Rattle.std.proofs.Common.{◌+◌, ◌≤◌, length}
use Rattle.card_journal.proofs.PoolFitLemmas.{found_sized, tested_none, tested_row}
use Rattle.card_journal.proofs.pool.pooled.PooledContent.is_inside_body.Goals as goal

pub returns-in-Some : goal.returns-in-Some
returns-in-Some c =
    let content = c.args.self.now in
    tested_row content c.args.path.now c.in-Some.head.now c.is_inside.result
    (λ row. c.args.offset + length c.args.bytes.now ≤ length row.body)
    (rw c.heads.ensures at c.in-Some.ensures.found)
    (λ row found same.
    rw (found_sized content c.args.path.now row c.requires found, same) c.is_inside.ensures)

pub returns-in-None : goal.returns-in-None
returns-in-None c =
    tested_none c.args.self.now c.args.path.now
    (λ row. c.args.offset + length c.args.bytes.now ≤ length row.body)
    (rw c.heads.ensures at c.in-None.ensures.none)
