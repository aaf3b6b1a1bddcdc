use Rattle.std.proofs.Common.{◌≡◌}
use Rattle.file_rows.proofs.ListLemmas.{any_rest}
use Rattle.record_codec.proofs.counts.is_held.Goals as goal

pub loop-head-preserved : goal.loop-head-preserved
loop-head-preserved c =
    any_rest (λ head. head.number ≡ c.args.number) c.args.profiles.now c.loop-head.head-index c.head-item.result c.loop-head-test.true c.head-item.is
    c.loop-head.invariant c.if-head-number.false
