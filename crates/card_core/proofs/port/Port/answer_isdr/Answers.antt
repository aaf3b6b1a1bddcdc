use Rattle.apdu_codec.specs.Command.{apdu_of}
use Rattle.card_core.proofs.RequestLemmas.{decision_fits, decision_takes}
use Rattle.card_core.proofs.port.Port.answer_isdr.Goals as goal

pub store_decided-requires-clause-fits : goal.store_decided-requires-clause-fits
store_decided-requires-clause-fits c =
    decision_fits c.args.durable.now c.args.busy.now c.args.port c.args.self.now.desk
    (apdu_of c.args.command.now) c.in_ok-decision.decision c.requires.are c.requires.came
    c.in_ok-decision.ensures.outcome

pub returns-in_err-store_decided-clause-memory : goal.returns-in_err-store_decided-clause-memory
returns-in_err-store_decided-clause-memory c =
    decision_takes c.args.durable.now c.args.busy.now c.args.port c.args.self.now.desk
    (apdu_of c.args.command.now) c.in_ok-decision.decision c.requires.are c.requires.came
    c.in_ok-decision.ensures.outcome c.from_residual-in_err-store_decided.result
    c.in_err-store_decided.ensures.some
