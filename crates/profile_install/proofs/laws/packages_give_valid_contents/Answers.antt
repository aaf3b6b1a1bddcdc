use Rattle.profile_install.proofs.GivesValid.{gives_valid}
use Rattle.profile_install.proofs.laws.packages_give_valid_contents.Goals as goal

pub returns : goal.returns
returns c = gives_valid
