use Rattle.card_journal.proofs.PoolFitLemmas.{there_alike}
use Rattle.card_journal.proofs.pool.pooled.PooledContent.has_file.Goals as goal

pub returns : goal.returns
returns c =
    let test = rw c.heads.ensures at c.has_head.ensures in
    let alike = there_alike c.args.path.now c.args.self.now.rows in (
      λ e. alike.0 (test.0 e),
      λ there. test.1 (alike.1 there),
    )
