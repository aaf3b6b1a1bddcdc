use Rattle.std.proofs.Common.{◌≡◌}
use Rattle.file_rows.proofs.ListLemmas.{any_rest}
use Rattle.record_codec.proofs.fits.place_of.Goals as goal

pub loop-place-preserved : goal.loop-place-preserved
loop-place-preserved c =
    any_rest (λ head. head.number ≡ c.args.number) c.args.profiles.now c.loop-place.place c.index-profiles-place.result c.loop-place-test.true c.index-profiles-place.is
    c.loop-place.invariant c.if-head-number.false
