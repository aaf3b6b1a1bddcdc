use Rattle.uicc_data.proofs.DoneLemmas.{local-data}
use Rattle.uicc_data.proofs.laws.data_commands_write_where_they_work.Goals as goal

pub returns : goal.returns
returns c rows allowed session command = (local-data rows allowed session command).1
