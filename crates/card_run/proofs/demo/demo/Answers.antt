use Rattle.script_text.specs.Script.{script_of}
use Rattle.card_run.proofs.EndsLemmas.{prefix_of}
use Rattle.card_run.proofs.demo.demo.Goals as goal

pub returns-in-Ok-answer_all-clause-prefix : goal.returns-in-Ok-answer_all-clause-prefix
returns-in-Ok-answer_all-clause-prefix g c = prefix_of _ _ _ (script_of c.in-Ok.commands) c.in-Ok.ensures.script c.answer_all.ensures.prefix

pub returns-clause-prefix : goal.returns-clause-prefix
returns-clause-prefix g c = prefix_of _ _ _ (script_of c.in-Ok.commands) c.in-Ok.ensures.script c.answer_all.ensures.prefix
