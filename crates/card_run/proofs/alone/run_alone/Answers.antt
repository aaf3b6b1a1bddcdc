use Rattle.std.proofs.Common.{◌≡◌}
use Rattle.card_run.specs.declared.words.Form.TheVariants.{Demo, List as Listing, New}
use Rattle.card_run.proofs.alone.run_alone.Goals as goal

pub returns-in-None-clause-demo : goal.returns-in-None-clause-demo
returns-in-None-clause-demo g c = λ are. absurd (c.in-None.ensures Demo are)

pub returns-in-None-clause-list : goal.returns-in-None-clause-list
returns-in-None-clause-list g c = λ asked. absurd (c.in-None.ensures Listing asked)

pub returns-in-None-clause-new : goal.returns-in-None-clause-new
returns-in-None-clause-new g c = λ card asked. absurd (c.in-None.ensures (New card) asked)
