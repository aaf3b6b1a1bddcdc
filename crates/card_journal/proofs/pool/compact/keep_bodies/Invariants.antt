use Rattle.std.proofs.Common.{◌≡◌, not, vec_capacity}
use Rattle.file_rows.specs.Path.{stands_below}
use Rattle.card_journal.proofs.PoolCompactLemmas.{Compacted}
use Rattle.card_journal.proofs.pool.compact.keep_bodies.Given as goal

abbrev pub invariant-loop-head : goal.invariant-loop-head
invariant-loop-head l = record {
  so_far : Compacted (λ row. not (stands_below l.top row.head.path)) l.heads l.initial.bodies.items l.bodies.items l.head-index l.from l.to;
  room : vec_capacity l.bodies ≡ vec_capacity l.initial.bodies;
}
