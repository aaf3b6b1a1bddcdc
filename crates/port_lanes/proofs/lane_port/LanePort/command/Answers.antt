use Rattle.std.proofs.Common.{ℕ, [], None, nat_eq, refl, sym, ◌∙◌, ap}
use Rattle.apdu_codec.specs.Command.{apdu_of}
use Rattle.port_lanes.proofs.CommandLemmas.{commits_none, lsi_happens, own_happens, reply_happens}
use Rattle.port_lanes.proofs.ReplyLemmas.{not_same}
use Rattle.port_lanes.proofs.lane_port.LanePort.command.Goals as goal

pub returns-then-not-is_common-clause-step : goal.returns-then-not-is_common-clause-step
returns-then-not-is_common-clause-step g c = (
  c.own.ensures.step.0,
  c.own.ensures.step.1,
  c.own.ensures.step.2,
  own_happens c.args.self.now (apdu_of c.args.command.now) c.own.ensures.step.0 c.own.new.self
      c.own.ensures.step.1 (sym c.is_common.ensures ∙ c.if-not-is_common.true) c.own.ensures.step.3,
)

pub returns-then-command-eq-MANAGE_LSI-clause-step :
    goal.returns-then-command-eq-MANAGE_LSI-clause-step
returns-then-command-eq-MANAGE_LSI-clause-step g c = (
  None,
  [],
  commits_none _ _ _ _,
  lsi_happens c.args.self.now (apdu_of c.args.command.now) c.answered.new.self
      c.lsi_answer-answer.result (sym c.is_common.ensures ∙ c.if-not-is_common.false)
      (ap (λ (n : ℕ). nat_eq n 0x7A) c.if-command-eq-MANAGE_LSI.true) c.requires.unshared
      c.lsi_answer-answer.ensures
      c.answered.ensures.step,
)

pub returns-else-command-eq-MANAGE_LSI-clause-step :
    goal.returns-else-command-eq-MANAGE_LSI-clause-step
returns-else-command-eq-MANAGE_LSI-clause-step g c = (
  None,
  [],
  commits_none _ _ _ _,
  reply_happens c.args.self.now (apdu_of c.args.command.now) c.reply.new.self
      (sym c.is_common.ensures ∙ c.if-not-is_common.false)
      (not_same c.args.command.now.ins 0x7A c.if-command-eq-MANAGE_LSI.false
      (nat_eq c.args.command.now.ins 0x7A) refl)
      c.reply.ensures.step,
)
