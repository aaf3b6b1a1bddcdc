use Rattle.uicc_select.proofs.SuitsLemmas.{AreRows-valid, Suits-select, Suits-status}
use Rattle.uicc_select.proofs.laws.sessions_suit_after_selection.Goals as goal

pub returns-clause-select : goal.returns-clause-select
returns-clause-select c content session isdr_here command valid suits =
    Suits-select content.rows (AreRows-valid content valid) session suits content.pins isdr_here command

pub returns-clause-status : goal.returns-clause-status
returns-clause-status c content session command valid suits =
    Suits-status content.rows (AreRows-valid content valid) session suits content.pins command
