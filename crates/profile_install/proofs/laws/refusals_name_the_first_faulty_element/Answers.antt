use Rattle.profile_install.proofs.FirstFaulty.{first_faulty, one_of_the_results}
use Rattle.profile_install.proofs.laws.refusals_name_the_first_faulty_element.Goals as goal

pub returns : goal.returns
returns c = record { first = first_faulty; number = one_of_the_results }
