use Rattle.std.proofs.Common.{◌≡◌, take}
use Rattle.card_journal.proofs.pool.pooled.PooledContent.push_rows.Given as goal

abbrev pub invariant-loop-row : goal.invariant-loop-row
invariant-loop-row l = l.self ≡ record l.initial.self { rows = take l.row-index l.rows }
