use Rattle.notify_list.proofs.NoteLemmas.{gone, numbered_less, numbered_more}
use Rattle.notify_list.proofs.laws.numbers_ascend.Goals as goal

pub returns-clause-added : goal.returns-clause-added
returns-clause-added c = numbered_more

pub returns-clause-removed : goal.returns-clause-removed
returns-clause-removed c = numbered_less

pub returns-clause-gone : goal.returns-clause-gone
returns-clause-gone c = gone
