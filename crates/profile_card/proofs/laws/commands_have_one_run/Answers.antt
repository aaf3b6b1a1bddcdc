use Rattle.profile_card.proofs.RunLemmas.{Runs-once, Runs-some}
use Rattle.profile_card.proofs.laws.commands_have_one_run.Goals as goal

pub returns-clause-some : goal.returns-clause-some
returns-clause-some c card port commands e = Runs-some commands card port e

pub returns-clause-once : goal.returns-clause-once
returns-clause-once c = Runs-once
