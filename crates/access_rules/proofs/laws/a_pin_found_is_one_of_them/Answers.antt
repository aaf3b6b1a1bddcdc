use Rattle.access_rules.proofs.Finding.{Contains-pin_for}
use Rattle.access_rules.proofs.laws.a_pin_found_is_one_of_them.Goals as goal

pub returns : goal.returns
returns c = Contains-pin_for
