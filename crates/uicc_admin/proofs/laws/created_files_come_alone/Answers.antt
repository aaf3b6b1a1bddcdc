use Rattle.uicc_admin.proofs.CreateRowLemmas.{added_file, application_stays, other_channels-create}
use Rattle.uicc_admin.proofs.CreateRowLemmas.{other_files-create}
use Rattle.uicc_admin.proofs.laws.created_files_come_alone.Goals as goal

pub returns-clause-added : goal.returns-clause-added
returns-clause-added c content allowed session command directory new head valid suits at asked made accepted =
    added_file content valid session suits allowed command directory new head at asked made accepted

pub returns-clause-others : goal.returns-clause-others
returns-clause-others c content allowed session command path row valid suits there = other_files-create content valid session suits allowed command path row there

pub returns-clause-other_channels : goal.returns-clause-other_channels
returns-clause-other_channels c rows allowed session command number apart = other_channels-create rows allowed session command number apart

pub returns-clause-application : goal.returns-clause-application
returns-clause-application c rows allowed session command suits is_open = application_stays rows allowed session command suits is_open
