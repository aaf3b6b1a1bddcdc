use Rattle.std.proofs.Common.{◌∙◌, sym}
use Rattle.card_journal.proofs.PoolLemmas.{pooled_bytes-pooled_rows}
use Rattle.card_journal.proofs.pool.pooled.PooledContent.bodies.Goals as goal

pub returns : goal.returns
returns c = rw (← c.self.view_is) (c.deref.ensures.value ∙ sym (pooled_bytes-pooled_rows c.self.inside.heads.items c.self.inside.bodies.items c.self.invariant.1))
