use Rattle.profile_install.proofs.Answering.{answers, answers_valid}
use Rattle.profile_install.proofs.builder.finish.Goals as goal

pub returns-in-Ok-clause-answer : goal.returns-in-Ok-clause-answer
returns-in-Ok-clause-answer c =
    answers c.args.iccid.now c.args.elements.unread c.args.elements c.read_parts.new.elements
    c.new-work.result c.in-Ok.work c.is_used_up.result c.into_outcome.result
    c.requires.untaken c.new-work.ensures c.in-Ok.ensures c.is_used_up.ensures
    c.into_outcome.ensures

pub returns-in-Ok-clause-valid : goal.returns-in-Ok-clause-valid
returns-in-Ok-clause-valid c =
    answers_valid c.args.iccid.now c.args.elements.unread c.into_outcome.result c.requires.bytes
    (answers c.args.iccid.now c.args.elements.unread c.args.elements c.read_parts.new.elements
    c.new-work.result c.in-Ok.work c.is_used_up.result c.into_outcome.result
    c.requires.untaken c.new-work.ensures c.in-Ok.ensures c.is_used_up.ensures
    c.into_outcome.ensures)
