use Rattle.std.proofs.Common.{◌≡◌, ◌+◌, ℕ, sym, ◌∙◌, ap, map}
use Rattle.std.specs.Prelude.{None, is_some}
use Rattle.apdu_codec.specs.Command.{Apdu, apdu_of}
use Rattle.apdu_codec.specs.declared.answers.Answer.{Answer}
use Rattle.profile_card.specs.Commands.{decision}
use Rattle.record_codec.specs.declared.durable.Durable.{Durable}
use Rattle.uicc_channels.specs.CommandOutcome.{CommandOutcome}
use Rattle.card_core.proofs.CameLemmas.{came_there, on_ok, port_is, ports_with, told_as, whole_with}
use Rattle.card_core.specs.AtPort.{port_state}
use Rattle.card_core.specs.OwnCommand.{changed_where, port_after}
use Rattle.card_core.specs.PortState.{PortState}
use Rattle.card_core.specs.Whole.{world_state}
use Rattle.card_core.specs.World.{card_on, count_if, port_in}
use Rattle.card_core.specs.declared.entry.Line.TheVariants.{Answered}
use Rattle.card_core.specs.declared.world.World.{World}
use Rattle.card_core.proofs.world.World.own.Goals as goal

pub returns : goal.returns
returns c =
    let before : World = c.args.self.now in
    let after : World = c.tell.new.self in
    let durable : Durable = before.durable in
    let came : ℕ = c.args.came in
    let command : Apdu = apdu_of c.args.command.now in
    let port = c.index_mut-port.result.now in
    let put = c.answer.new.self in
    let its_answer = c.in_ok-answer.ensures in
    let at = c.from.ensures in
    let read = c.index_mut-port.ensures.value in
    let now : PortState = port_in (world_state before) came in
    let same : port_state port ≡ now =
    sym (port_is before came c.requires.whole c.requires.may c.from.result port at read) in
    let comes : PortState → CommandOutcome =
    λ its. decision (card_on durable came its.session) command in
    on_ok c.tell.result c.tell.ensures.entries (λ told.
    came_there before after (changed_where durable came (comes now).change) _ before.shared
    (before.commits + count_if (is_some (comes now).change)) _
    (c.tell.ensures.durable ∙ its_answer.kept
    ∙ ap (λ (its : PortState). changed_where durable came (comes its).change) same)
    (ap (λ its. map port_state its.items) c.tell.ensures.ports
    ∙ ports_with before came c.requires.whole c.requires.may c.from.result port put at read
    (λ its. port_after its command (comes its)) its_answer.state)
    c.tell.ensures.shared
    (c.tell.ensures.commits
    ∙ ap (λ (n : ℕ). before.commits + n) (c.count_if.ensures
    ∙ ap count_if (its_answer.recorded
    ∙ ap (λ (its : PortState). is_some (comes its).change) same)))
    (told_as before after.entries before.shared came
    (λ (its : PortState). Answered (its.statements + 1) (comes its).answer None) (port_state port)
    now
    (told_as before after.entries before.shared came
    (λ (its : Answer). Answered (port.statements + 1) its None) c.in_ok-answer.field-0.answer
    (comes (port_state port)).answer
    (told_as before after.entries before.shared came
    (λ (n : ℕ). Answered n c.in_ok-answer.field-0.answer None) c.next_number-number.result
    (port.statements + 1) told c.next_number-number.ensures) its_answer.answer) same)
    (whole_with before came c.requires.whole c.requires.may c.from.result port put at read after
    c.answer.new.durable (ap (λ its. its.items) c.tell.ensures.ports) c.tell.ensures.durable
    its_answer.are its_answer.heads its_answer.elsewhere its_answer.here))
