use Rattle.uicc_data.proofs.DoneLemmas.{local-data}
use Rattle.uicc_data.proofs.laws.refused_data_commands_change_nothing.Goals as goal

pub returns : goal.returns
returns c rows allowed session command = (local-data rows allowed session command).0
