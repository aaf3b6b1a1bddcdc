use Rattle.std.proofs.Common.{◌∙◌, ◌<◌, ◌+◌, ◌++◌, ◌∷◌, [], ℕ, List, length, map, ap, subst, sym}
use Rattle.std.proofs.Common.{append_assoc}
use Rattle.std.specs.Prelude.{◌==◌, if◌then◌else◌, None, slice_set}
use Rattle.apdu_codec.specs.declared.answers.Answer.{Answer}
use Rattle.card_core.proofs.CameLemmas.{came_there, here, port_is, ports_with, stand_as_before}
use Rattle.card_core.proofs.CameLemmas.{whole_kept}
use Rattle.card_core.proofs.ResetLemmas.{reset_stands, reset_states}
use Rattle.card_core.proofs.WholeLemmas.{same_card}
use Rattle.card_core.specs.AtPort.{AreAtPorts, port_state}
use Rattle.card_core.specs.PortState.{PortState, counted}
use Rattle.card_core.specs.Whole.{world_state}
use Rattle.card_core.specs.World.{port_in}
use Rattle.card_core.specs.declared.entry.Entry.{Entry}
use Rattle.card_core.specs.declared.entry.Line.TheVariants.{Answered, ForeignReset}
use Rattle.card_core.specs.declared.port.Port.{Port}
use Rattle.card_core.specs.declared.world.World.{World}
use Rattle.card_core.proofs.world.World.reset_by_lsi.Goals as goal

pub returns : goal.returns
returns c =
    let before : World = c.args.self.now in
    let came : ℕ = c.args.came in
    let port = c.index_mut-sender.result.now in
    let put = c.count.new.self in
    let place : ℕ = c.from.result in
    let at = c.from.ensures in
    let read = c.index_mut-sender.ensures.value in
    let other = c.index_mut.result.now in
    let told = c.in_ok-tell.ensures in
    let ends = c.in_ok-tell_reset.ensures in
    let was = here before came c.requires.whole c.requires.may place port at read in
    let ports : List Port = slice_set before.ports.items place put in
    let stand : AreAtPorts before.durable ports =
    stand_as_before before came c.requires.whole c.requires.may place port put at read
    (same_card before.durable came port put was c.count.ensures.card c.count.ensures.session) in
    let below : c.args.port < length ports =
    subst (λ (n : ℕ). c.args.port < n) (sym stand.count) c.requires.port in
    let line : ℕ → Answer → Entry =
    λ n answer. record {
      turn = before.shared;
      port = came;
      line = Answered n answer None;
    } in
    let foreign : ℕ → ℕ → List Entry =
    λ turn n. if c.args.port == came then [] else record {
      turn = turn;
      port = c.args.port;
      line = ForeignReset (record { port = came; number = n });
    } ∷ [] in
    let number : ℕ = c.next_number-number.result in
    came_there before _ before.durable _ (before.shared + 1) before.commits _
    (ends.durable ∙ told.durable)
    (ap (λ its. map port_state its.items) (ends.ports ∙ told.ports)
    ∙ reset_states before.durable ports c.args.port c.from-2.result other c.reset.new.self stand
    below c.from-2.ensures c.index_mut.ensures.value c.reset.ensures.state c.reset.ensures.card
    (slice_set (map port_state before.ports.items) came
    (counted (port_in (world_state before) came)))
    (ports_with before came c.requires.whole c.requires.may place port put at read counted
    c.count.ensures.state))
    (ap (λ (n : ℕ). n + 1) (ends.shared ∙ told.shared)) (ends.commits ∙ told.commits)
    (ends.entries
    ∙ ap (λ (its : List Entry). its ++ foreign c.tell.new.self.shared number) told.entries
    ∙ append_assoc before.entries (line number c.status.result ∷ [])
    (foreign c.tell.new.self.shared number)
    ∙ ap (λ (n : ℕ). before.entries ++ line number c.status.result ∷ foreign n number) told.shared
    ∙ ap (λ (its : Answer). before.entries ++ line number its ∷ foreign before.shared number)
    c.status.ensures
    ∙ ap (λ (n : ℕ). before.entries ++ line n _ ∷ foreign before.shared n)
    (c.next_number-number.ensures ∙ ap (λ (its : PortState). its.statements + 1)
    (sym (port_is before came c.requires.whole c.requires.may place port at read))))
    (whole_kept _ before.durable _ (ends.durable ∙ told.durable)
    (ap (λ its. its.items) (ends.ports ∙ told.ports)) c.requires.whole.are
    (reset_stands before.durable ports c.args.port c.from-2.result other c.reset.new.self stand
    below c.from-2.ensures c.index_mut.ensures.value c.reset.ensures.state
    c.reset.ensures.card))
