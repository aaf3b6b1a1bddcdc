use Rattle.std.proofs.Common.{◌+◌, ℕ, ap}
use Rattle.std.specs.Prelude.{None}
use Rattle.card_core.specs.PortState.{counted}
use Rattle.card_core.specs.declared.entry.Line.TheVariants.{Answered}
use Rattle.card_core.proofs.CameLemmas.{came_at_port, here, on_ok, told_as}
use Rattle.card_core.proofs.WholeLemmas.{same_card}
use Rattle.card_core.specs.declared.world.World.{World}
use Rattle.card_core.proofs.world.World.answered.Goals as goal

pub returns : goal.returns
returns c =
    let before : World = c.args.self.now in
    let port = c.index_mut-port.result.now in
    let place : ℕ = c.from.result in
    let at = c.from.ensures in
    let read = c.index_mut-port.ensures.value in
    let number = c.next_number-number in
    let was = here before c.args.came c.requires.whole c.requires.may place port at read in
    on_ok c.tell.result c.tell.ensures.entries (λ told.
    came_at_port before c.args.came c.requires.whole c.requires.may place port c.count.new.self at
    read c.tell.new.self (counted) (λ its. Answered (its.statements + 1) c.args.answer None)
    (ap (λ its. its.items) c.tell.ensures.ports) c.tell.ensures.durable c.tell.ensures.shared
    c.tell.ensures.commits (c.count.ensures.state)
    (same_card before.durable c.args.came port c.count.new.self was c.count.ensures.card
    c.count.ensures.session)
    (told_as before c.tell.new.self.entries before.shared c.args.came (λ n. Answered n c.args.answer None)
    number.result (port.statements + 1) told number.ensures))
