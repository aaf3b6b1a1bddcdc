use Rattle.std.proofs.Common.{◌≡◌, ◌+◌, ◌-◌, ℕ, length, take, get_or, sym, ◌∙◌, arith, refl}
use Rattle.std.proofs.Common.{add-one}
use Rattle.std.proofs.Math.Seq.{take-length}
use Rattle.pin_state.proofs.DistanceLemmas.{distance, distance-bytes_eq, distance-next}
use Rattle.pin_state.proofs.value.is_right.Goals as goal

pub loop-index-preserved : goal.loop-index-preserved
loop-index-preserved c =
    let one : ℕ = get_or c.args.presented.now c.loop-index.index 0 in
    let other : ℕ = get_or c.args.value.now c.loop-index.index 0 in
    let step : c.from-distance.result ≡ (one - other) + (other - one) = c.from-distance.ensures ∙ c.abs_diff.ensures in (
      rw (
        add-one,
        distance-next c.args.presented.now c.args.value.now c.loop-index.index c.loop-index-test.true (c.requires ∙ sym c.told-value),
        c.loop-index.invariant.0,
        step,
      ) refl,
      omega (arith, step, c.loop-index.invariant.1),
    )

pub returns : goal.returns
returns c =
    let same : length c.args.presented.now ≡ length c.args.value.now = c.requires ∙ sym c.told-value in
    let all : c.loop-index.index ≡ length c.args.presented.now = omega arith in
    let whole : distance (take c.loop-index.index c.args.presented.now) (take c.loop-index.index c.args.value.now)
    ≡ distance c.args.presented.now c.args.value.now =
    rw (all, take-length c.args.presented.now, same, take-length c.args.value.now) refl in
    rw (c.loop-index.invariant.0, whole) (distance-bytes_eq c.args.presented.now c.args.value.now same)
