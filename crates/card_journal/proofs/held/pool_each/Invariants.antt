use Rattle.std.proofs.Common.{◌≡◌, ◌≤◌, take, vec_capacity}
use Rattle.card_journal.proofs.held.pool_each.Given as goal

abbrev pub invariant-loop-content : goal.invariant-loop-content
invariant-loop-content l = record {
  items : l.pooled.items ≡ take l.content-index l.contents;
  room : 16 ≤ vec_capacity l.pooled;
}
