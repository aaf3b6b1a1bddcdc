use Rattle.std.proofs.Common.{◌≡◌, ◌≢◌, take}
use Rattle.std.specs.List.{AllByRecursion}
use Rattle.record_codec.specs.Pooled.{pooled_size}
use Rattle.card_journal.proofs.pool.place.place_of.Given as goal

abbrev pub invariant-loop-index : goal.invariant-loop-index
invariant-loop-index l = record {
  begin : l.start ≡ pooled_size (take l.index l.heads);
  others : AllByRecursion (λ head. head.path ≢ l.path) (take l.index l.heads);
}
