use Rattle.std.proofs.Common.{◌+◌, ◌≤◌, ◌↔◌, sym, subst}
use Rattle.std.specs.Bool.{IsTrue}
use Rattle.file_rows.specs.Content.{use_of}
use Rattle.file_rows.specs.FileHead.{IsFile}
use Rattle.file_rows.specs.declared.head.FileHead.{FileHead}
use Rattle.card_journal.proofs.PoolFitLemmas.{tested_none, tested_row}
use Rattle.card_journal.proofs.pool.pooled.PooledContent.is_size_of.Goals as goal

pub returns-in-Some : goal.returns-in-Some
returns-in-Some c =
    let rows = c.args.self.now.rows in
    let size = c.args.size in
    tested_row c.args.self.now c.args.path.now c.in-Some.head.now c.is_size_for.result
    (λ row. IsFile (record row.head { size = size }) × (use_of rows + size ≤ 65536 + row.head.size))
    (rw c.heads.ensures at c.in-Some.ensures.found)
    (λ row found same.
    subst (λ (h : FileHead). IsTrue c.is_size_for.result
    ↔ (IsFile (record h { size = size }) × (use_of rows + size ≤ 65536 + h.size)))
    (sym same) (rw c.used.ensures at c.is_size_for.ensures))

pub returns-in-None : goal.returns-in-None
returns-in-None c =
    let rows = c.args.self.now.rows in
    let size = c.args.size in
    tested_none c.args.self.now c.args.path.now
    (λ row. IsFile (record row.head { size = size }) × (use_of rows + size ≤ 65536 + row.head.size))
    (rw c.heads.ensures at c.in-None.ensures.none)
