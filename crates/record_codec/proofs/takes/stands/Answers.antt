use Rattle.std.proofs.Common.{◌∙◌, ℕ, get_or, Option, None, sym}
use Rattle.std.proofs.lemmas.Bool.{false≢true}
use Rattle.std.proofs.lemmas.List.{get_or_default}
use Rattle.record_codec.proofs.PortLemmas.{stands_more}
use Rattle.record_codec.proofs.takes.stands.Goals as goal

pub loop-place-preserved : goal.loop-place-preserved
loop-place-preserved c =
    let on = c.args.on.now in
    let place : Option ℕ = get_or on c.loop-place.place-index None in
    stands_more c.args.profile on c.loop-place.place-index place c.loop-place-test.true
    (get_or_default on c.loop-place.place-index None place c.loop-place-test.true) c.loop-place.invariant
    (λ e. false≢true (sym c.if-holds.false ∙ c.holds.ensures.1 e))
