use Rattle.std.proofs.Common.{◌≡◌, take}
use Rattle.record_codec.specs.Pooled.{pooled_rows, pooled_size}
use Rattle.card_journal.proofs.pool.pooled.copy_rows.Given as goal

abbrev pub invariant-loop-head : goal.invariant-loop-head
invariant-loop-head l = record {
  begin : l.start ≡ pooled_size (take l.head-index l.heads);
  so_far : l.rows.items ≡ take l.head-index (pooled_rows l.heads l.bytes);
}
