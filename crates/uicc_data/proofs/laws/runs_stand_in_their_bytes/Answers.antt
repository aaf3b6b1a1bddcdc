use Rattle.uicc_data.proofs.RunLemmas.{around_holds, run_is_around}
use Rattle.uicc_data.proofs.laws.runs_stand_in_their_bytes.Goals as goal

pub returns-clause-inside : goal.returns-clause-inside
returns-clause-inside c run bytes holds =
    run_is_around run bytes holds

pub returns-clause-found : goal.returns-clause-found
returns-clause-found c run before after =
    around_holds run before after
