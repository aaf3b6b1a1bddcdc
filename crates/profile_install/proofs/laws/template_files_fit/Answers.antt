use Rattle.profile_install.proofs.FilesFit.{master_fits, template_fits}
use Rattle.profile_install.proofs.laws.template_files_fit.Goals as goal

pub returns-clause-added : goal.returns-clause-added
returns-clause-added c content directory row given head valid there e = template_fits content
    directory valid there row given head e

pub returns-clause-master : goal.returns-clause-master
returns-clause-master c row given head e = master_fits row given head e
