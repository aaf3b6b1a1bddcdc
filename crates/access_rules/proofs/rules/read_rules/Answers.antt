use Rattle.access_rules.specs.KeySet.{has}
use Rattle.access_rules.specs.Rules.{list_of}
use Rattle.access_rules.proofs.Passing.{rules_there_are}
use Rattle.access_rules.proofs.rules.read_rules.Goals as goal

pub returns : goal.returns
unfolding list_of
returns c = rules_there_are _ (has c.none.result) _ _ c.in_ok-decide.ensures
