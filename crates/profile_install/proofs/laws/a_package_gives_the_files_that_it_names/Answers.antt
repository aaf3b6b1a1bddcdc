use Rattle.profile_install.proofs.NamedParts.{files_named}
use Rattle.profile_install.proofs.laws.a_package_gives_the_files_that_it_names.Goals as goal

pub returns : goal.returns
returns c = files_named
