use Rattle.std.proofs.Common.{◌≡◌, ◌++◌, take, vec_capacity}
use Rattle.card_journal.proofs.pool.pooled.push_pins.Given as goal

abbrev pub invariant-loop-pin : goal.invariant-loop-pin
invariant-loop-pin l = record {
  pins : l.list.items ≡ l.initial.list.items ++ take l.pin-index l.pins;
  room : vec_capacity l.list ≡ vec_capacity l.initial.list;
}
