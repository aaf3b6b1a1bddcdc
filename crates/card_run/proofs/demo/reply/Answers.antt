use Rattle.std.proofs.Common.{◌≡◌, Some, None, inr, ap, subst, sym}
use Rattle.apdu_codec.specs.Command.{Apdu, apdu_of}
use Rattle.apdu_codec.specs.declared.answers.Answer.{Answer}
use Rattle.apdu_codec.specs.Answer.{status_alone}
use Rattle.apdu_codec.specs.declared.status.Sw.{Sw}
use Rattle.profile_card.specs.Card.{Card, outcome_at}
use Rattle.profile_card.specs.CardState.{card_of}
use Rattle.profile_card.specs.Commands.{decision}
use Rattle.profile_card.specs.Step.{Outcome, Steps}
use Rattle.profile_card.specs.Step.Event.{Command}
use Rattle.card_run.proofs.demo.reply.Goals as goal

-- what was decided was carried out
pub returns-in_ok-reserve-in-Ok-clause-given : goal.returns-in_ok-reserve-in-Ok-clause-given
returns-in_ok-reserve-in-Ok-clause-given c =
    let decided = c.decide_into.new.into in
    let command : Apdu = apdu_of c.in-Ok.command in
    let same = c.in_ok-reserve-in-Ok.ensures.card in
    let outcome : Outcome = record { answer = Some decided.answer; card = card_of c.settle.new.self; change = decided.change } in
    let step = c.settle.ensures.step c.args.bytes.now command c.in-Ok.ensures.spelled
    (subst (λ (card : Card). outcome_at card decided ≡ decision card command) (sym same) c.decide_into.ensures.decision) in
    (decided.answer, (decided.change, subst (λ (card : Card). Steps card (Command c.args.bytes.now) outcome) same step), c.in_ok-push_answer_line-in-Ok.ensures)

-- the refusal of bytes that spell no command
pub returns-in_ok-push_answer_line-in-Err-clause-given : goal.returns-in_ok-push_answer_line-in-Err-clause-given
returns-in_ok-push_answer_line-in-Err-clause-given c =
    let card = card_of c.args.card.now in
    let answer : Answer = status_alone c.in-Err.sw in
    (answer, (None, inr (c.in-Err.ensures.none, ap (λ (sw : Sw). record { answer = Some (status_alone sw); card = card; change = None }) c.in-Err.ensures.refused)), rw c.status.ensures at c.in_ok-push_answer_line-in-Err.ensures)
