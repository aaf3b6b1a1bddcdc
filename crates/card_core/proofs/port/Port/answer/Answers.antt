use Rattle.std.proofs.Common.{◌∙◌, ap}
use Rattle.std.specs.Prelude.{is_some}
use Rattle.apdu_codec.specs.Command.{apdu_of}
use Rattle.profile_card.specs.Card.{Card, outcome_at}
use Rattle.profile_card.specs.CardState.{card_of}
use Rattle.uicc_channels.specs.CommandOutcome.{CommandOutcome}
use Rattle.card_core.proofs.CardLemmas.{outcome_on}
use Rattle.card_core.specs.AtPort.{port_state}
use Rattle.card_core.specs.OwnCommand.{changed_where, port_after}
use Rattle.card_core.specs.PortState.{PortState}
use Rattle.card_core.proofs.port.Port.answer.Goals as goal

pub returns-clause-answer : goal.returns-clause-answer
returns-clause-answer c =
    ap (λ (its : CommandOutcome). its.answer)
    (outcome_on c.args.durable.now c.args.port c.args.self.now.session
    (card_of c.args.self.now.card) c.decide-decided.result (apdu_of c.args.command.now)
    c.requires.here c.decide-decided.ensures.decision)

pub returns-clause-recorded : goal.returns-clause-recorded
returns-clause-recorded c =
    c.is_some.ensures
    ∙ ap (λ (its : CommandOutcome). is_some its.change)
    (outcome_on c.args.durable.now c.args.port c.args.self.now.session
    (card_of c.args.self.now.card) c.decide-decided.result (apdu_of c.args.command.now)
    c.requires.here c.decide-decided.ensures.decision)

pub returns-clause-kept : goal.returns-clause-kept
returns-clause-kept c =
    c.in_ok-record_change.ensures.kept
    ∙ ap (λ (its : CommandOutcome). changed_where c.args.durable.now c.args.port its.change)
    (outcome_on c.args.durable.now c.args.port c.args.self.now.session
    (card_of c.args.self.now.card) c.decide-decided.result (apdu_of c.args.command.now)
    c.requires.here c.decide-decided.ensures.decision)

pub returns-clause-state : goal.returns-clause-state
returns-clause-state c =
    let before : PortState = port_state c.args.self.now in
    let command = apdu_of c.args.command.now in
    let decided = c.decide-decided.result in
    let held = c.record_change.new.self in
    c.settle.ensures.state
    ∙ ap (λ (its : PortState). port_after its command (outcome_at (card_of held.card) decided))
    c.in_ok-record_change.ensures.state
    ∙ ap (λ (its : Card). port_after before command (outcome_at its decided))
    c.in_ok-record_change.ensures.card
    ∙ ap (port_after before command)
    (outcome_on c.args.durable.now c.args.port c.args.self.now.session
    (card_of c.args.self.now.card) decided command c.requires.here
    c.decide-decided.ensures.decision)
