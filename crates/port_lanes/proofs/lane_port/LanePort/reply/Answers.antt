use Rattle.std.proofs.Common.{◌≡◌, ◌++◌, ℕ, List, [], ◌∷◌, None, sym, ◌∙◌, ap}
use Rattle.apdu_codec.specs.Command.{apdu_of}
use Rattle.isdr_commands.specs.declared.moves.Move.{Move}
use Rattle.profile_card.specs.CardState.{CardState, card_of}
use Rattle.card_core.specs.AtPort.{port_state}
use Rattle.card_core.specs.Carried.{exchange_after}
use Rattle.card_core.specs.Desk.{desk_with, exchange_at}
use Rattle.card_core.specs.DeskOutcome.{DeskOutcome}
use Rattle.card_core.specs.PortState.{PortState, counted}
use Rattle.card_core.specs.declared.entry.Line.TheVariants.{Answered}
use Rattle.card_core.specs.declared.port.Port.{Port}
use Rattle.port_lanes.proofs.ReplyLemmas.{reply_steps}
use Rattle.port_lanes.specs.declared.lane_port.LanePort.{LanePort}
use Rattle.port_lanes.proofs.lane_port.LanePort.reply.Goals as goal

pub returns-clause-step : goal.returns-clause-step
returns-clause-step c =
    let port_is : c.tell.new.self.port ≡ c.carry_out_isdr.new.self =
    ap (λ (one : LanePort). one.port) c.tell.ensures.rest in
    let rest : c.tell.new.self
    ≡ record c.args.self.now { port = c.tell.new.self.port; log = c.tell.new.self.log } =
    c.tell.ensures.rest
    ∙ ap (λ (one : Port). record c.args.self.now { port = one; log = c.tell.new.self.log })
    (sym port_is) in
    let card : c.tell.new.self.port.card ≡ c.args.self.now.port.card =
    ap (λ (one : Port). one.card) port_is ∙ c.carry_out_isdr.ensures.card in
    let session : c.tell.new.self.port.session ≡ c.args.self.now.port.session =
    ap (λ (one : Port). one.session) port_is ∙ c.carry_out_isdr.ensures.session in
    record {
      rest = rest;
      statements = ap (λ (one : Port). one.statements) port_is
          ∙ ap (λ (one : PortState). one.statements) c.carry_out_isdr.ensures.state;
      session = λ its. ap (λ (one : CardState). (card_of one).session) card ∙ its ∙ sym session;
      room = c.tell.ensures.room;
      each = λ state sound at. reply_steps c.requires.command.0 (apdu_of c.args.command.now)
          c.requires.command.1 c.requires.other c.requires.lsi state c.args.self.now
          c.tell.new.self at
          (exchange_after (exchange_at c.args.self.now.port.desk c.args.command.now.channel)
          c.decide_reply-answer.result.exchange)
          c.decide_reply-answer.result.answer
          (λ heads busy port. (
            ap (λ (one : DeskOutcome). one.exchange)
                (c.decide_reply-answer.ensures.outcome heads busy port),
            ap (λ (one : DeskOutcome). one.answer)
                (c.decide_reply-answer.ensures.outcome heads busy port),
          ))
          (ap port_state port_is ∙ c.carry_out_isdr.ensures.state
          ∙ ap (λ (moves : List Move). record (counted (port_state c.args.self.now.port)) {
            desk = desk_with c.args.self.now.port.desk c.args.self.now.number
                c.args.command.now.channel moves
                (exchange_after (exchange_at c.args.self.now.port.desk c.args.command.now.channel)
                c.decide_reply-answer.result.exchange);
          }) c.new.ensures) card session rest
          (c.tell.ensures.log ∙ ap (λ (n : ℕ). c.args.self.now.log.entries ++ (record {
            turn = c.args.self.now.turn;
            port = c.args.self.now.number;
            line = Answered n c.decide_reply-answer.result.answer None;
          }) ∷ []) c.next_number-number.ensures);
    }
