use Rattle.std.proofs.Common.{ℕ, ◌<◌, List, Option, get_or, length, arith, subst, ap, ◌∙◌}
use Rattle.std.proofs.lemmas.Option.{slice_get-get_or}
use Rattle.isdr_commands.specs.declared.moves.Move.{Move}
use Rattle.card_core.proofs.SoFarLemmas.{so_far_more}
use Rattle.card_core.specs.AtPort.{IsMovedTo}
use Rattle.card_core.specs.IsdrCommand.{kept_on, move_at}
use Rattle.card_core.proofs.world.moving.move_ports.Goals as goal

pub loop-place-preserved : goal.loop-place-preserved
loop-place-preserved c =
    let place : ℕ = c.loop-place.place in
    let was = get_or c.loop-place.ports c.loop-place.place c.index-ports-place.result in
    let put = c.move_port.new.port in
    let below : c.loop-place.place < length c.loop-place.ports =
    omega (arith, c.loop-place.auto.ports, c.loop-place-test.true) in
    so_far_more (λ number. IsMovedTo c.args.durable.now number
    (kept_on c.args.came c.args.channel number) (move_at c.args.moves.now number)) c.args.ports.now
    c.loop-place.ports place was put c.loop-place.invariant
    (slice_get-get_or c.loop-place.ports place c.index-ports-place.result below)
    (subst (λ (kept : Option ℕ). IsMovedTo c.args.durable.now place kept
    (move_at c.args.moves.now place) was put) c.kept_on-kept.ensures
    (subst (λ (its : Option Move). IsMovedTo c.args.durable.now place c.kept_on-kept.result its was
    put) (c.copied-its.ensures ∙ c.move_at.ensures
    ∙ ap (λ (its : List Move). move_at its place) c.as_slice.ensures.value) c.in_ok-move_port.ensures))
