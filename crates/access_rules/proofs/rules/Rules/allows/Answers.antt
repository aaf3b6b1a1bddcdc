use Rattle.std.proofs.Common.{ap, false, ◌∙◌}
use Rattle.std.specs.Result.{result_unwrap_or}
use Rattle.access_rules.specs.KeySet.{has}
use Rattle.access_rules.specs.Reading.{rules_of}
use Rattle.access_rules.specs.Rules.{list_of}
use Rattle.access_rules.proofs.Passing.{allowed_or_not}
use Rattle.access_rules.proofs.rules.Rules.allows.Goals as goal

pub returns : goal.returns
unfolding list_of
returns c = c.unwrap_or.ensures ∙ ap (λ r. result_unwrap_or r false) c.decide.ensures
    ∙ allowed_or_not c.args.mode (has c.args.met.now) (rules_of c.args.self.now.bytes.now)
