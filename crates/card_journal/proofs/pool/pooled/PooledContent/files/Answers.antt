use Rattle.std.proofs.Common.{ap}
use Rattle.file_rows.specs.declared.content.Content.{Content}
use Rattle.card_journal.proofs.pool.pooled.PooledContent.files.Goals as goal

pub returns : goal.returns
returns c =
    rw (c.deref.ensures.value, c.deref-2.ensures.value)
    (ap (λ (content : Content). content.rows) c.self.view_is)
