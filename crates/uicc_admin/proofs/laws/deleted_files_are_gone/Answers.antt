use Rattle.uicc_admin.proofs.DeleteRowLemmas.{gone_files, none_named, other_channels-delete}
use Rattle.uicc_admin.proofs.DeleteRowLemmas.{other_files-delete}
use Rattle.uicc_admin.proofs.laws.deleted_files_are_gone.Goals as goal

pub returns-clause-gone : goal.returns-clause-gone
returns-clause-gone c content allowed session command row path is accepted below = gone_files content allowed session command row is path accepted below

pub returns-clause-others : goal.returns-clause-others
returns-clause-others c content allowed session command row path is outside = other_files-delete content allowed session command row is path outside

pub returns-clause-unnamed : goal.returns-clause-unnamed
returns-clause-unnamed c content allowed session command row number valid suits is accepted = none_named content valid session suits allowed command row is accepted number

pub returns-clause-other_channels : goal.returns-clause-other_channels
returns-clause-other_channels c rows allowed session command number apart = other_channels-delete rows allowed session command number apart
