use Rattle.uicc_select.proofs.LocalLemmas.{stays-select, stays-status}
use Rattle.uicc_select.proofs.laws.selection_stays_on_its_channel.Goals as goal

pub returns-clause-select : goal.returns-clause-select
returns-clause-select c content session isdr_here command = stays-select content.rows content.pins session isdr_here command

pub returns-clause-status : goal.returns-clause-status
returns-clause-status c content session command = stays-status content.rows content.pins session command
