use Rattle.profile_install.proofs.EachPackage.{some_answer}
use Rattle.profile_install.proofs.OneAnswer.{one_answer}
use Rattle.profile_install.proofs.laws.one_answer_of_a_package.Goals as goal

pub returns : goal.returns
returns c = record { there = some_answer; alone = one_answer }
