use Rattle.uicc_select.proofs.LocalLemmas.{refused-select, refused-status}
use Rattle.uicc_select.proofs.laws.refused_selection_changes_nothing.Goals as goal

pub returns-clause-select : goal.returns-clause-select
returns-clause-select c content session isdr_here command = refused-select content.rows content.pins session isdr_here command

pub returns-clause-status : goal.returns-clause-status
returns-clause-status c content session command = refused-status content.rows content.pins session command
