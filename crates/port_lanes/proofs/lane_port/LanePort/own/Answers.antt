use Rattle.std.proofs.Common.{◌≡◌, ◌≤◌, ◌+◌, ◌++◌, ℕ, [], ◌∷◌, None, sym, ◌∙◌, ap, subst}
use Rattle.apdu_codec.specs.Command.{apdu_of}
use Rattle.profile_card.specs.Card.{Card, card_after, outcome_at, settled}
use Rattle.profile_card.specs.CardState.{card_of}
use Rattle.card_core.specs.AtPort.{port_state}
use Rattle.card_core.specs.OwnCommand.{port_after}
use Rattle.card_core.specs.PortState.{PortState}
use Rattle.card_core.specs.declared.entry.Line.TheVariants.{Answered}
use Rattle.card_core.specs.declared.port.Port.{Port}
use Rattle.port_lanes.proofs.OwnStepLemmas.{own_steps}
use Rattle.port_lanes.specs.OwnStep.{change_records}
use Rattle.port_lanes.specs.declared.lane_port.LanePort.{LanePort}
use Rattle.port_lanes.proofs.lane_port.LanePort.own.Goals as goal

pub returns-in-Ok-clause-step : goal.returns-in-Ok-clause-step
returns-in-Ok-clause-step g c =
    let port_is : c.tell.new.self.port ≡ c.settle.new.self =
    ap (λ (one : LanePort). one.port) c.tell.ensures.rest in
    let put : port_state c.tell.new.self.port
    ≡ port_after (port_state c.args.self.now.port) (apdu_of c.args.command.now)
    (outcome_at (card_of c.args.self.now.port.card) c.decide-decided.result) =
    ap port_state port_is ∙ c.settle.ensures.state
    ∙ ap (λ (one : PortState). port_after one (apdu_of c.args.command.now)
    (outcome_at (card_of c.store.new.self.port.card) c.decide-decided.result)) c.store.ensures.state
    ∙ ap (λ (one : Card). port_after (port_state c.args.self.now.port) (apdu_of c.args.command.now)
    (outcome_at one c.decide-decided.result)) c.store.ensures.card in
    let card : card_of c.tell.new.self.port.card
    ≡ card_after (card_of c.args.self.now.port.card)
    (outcome_at (card_of c.args.self.now.port.card) c.decide-decided.result) =
    ap (λ (one : Port). card_of one.card) port_is ∙ c.settle.ensures.card
    ∙ ap (λ (one : Card). settled one c.decide-decided.result) c.store.ensures.card in
    let rest : c.tell.new.self
    ≡ record c.args.self.now { port = c.tell.new.self.port; log = c.tell.new.self.log } =
    c.tell.ensures.rest
    ∙ ap (λ (one : LanePort). record one { port = c.settle.new.self; log = c.tell.new.self.log })
    c.store.ensures.rest
    ∙ ap (λ (one : Port). record c.args.self.now { port = one; log = c.tell.new.self.log })
    (sym port_is) in
    let log : c.tell.new.self.log.entries ≡ c.args.self.now.log.entries ++ (record {
      turn = c.args.self.now.turn;
      port = c.args.self.now.number;
      line = Answered (c.args.self.now.port.statements + 1) c.decide-decided.result.answer None;
    }) ∷ [] =
    c.tell.ensures.log
    ∙ ap (λ (one : LanePort). one.log.entries ++ (record {
      turn = one.turn;
      port = one.number;
      line = Answered c.next_number-number.result c.decide-decided.result.answer None;
    }) ∷ []) c.store.ensures.rest
    ∙ ap (λ (n : ℕ). c.args.self.now.log.entries ++ (record {
      turn = c.args.self.now.turn;
      port = c.args.self.now.number;
      line = Answered n c.decide-decided.result.answer None;
    }) ∷ []) c.next_number-number.ensures in (
      None,
      change_records c.args.self.now.profile c.decide-decided.result.change,
      c.in-Ok.ensures.commits,
      record {
        rest = rest;
        statements = ap (λ (one : PortState). one.statements) put;
        session = λ its. ap (λ (one : Card). one.session) card
            ∙ sym (ap (λ (one : PortState). one.session) put);
        room = subst (λ (one : LanePort). one.log.room ≤ c.tell.new.self.log.room + 1)
            c.store.ensures.rest c.tell.ensures.room;
        each = λ state sound at. own_steps state c.args.self.now c.tell.new.self
            (apdu_of c.args.command.now)
            (outcome_at (card_of c.args.self.now.port.card) c.decide-decided.result) at
            c.decide-decided.ensures.decision c.decide-decided.ensures.may_follow.change put card
            rest log;
      },
    )
