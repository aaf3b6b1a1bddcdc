use Rattle.uicc_admin.proofs.ReachLemmas.{spares-administration}
use Rattle.uicc_admin.proofs.laws.administration_changes_what_it_names.Goals as goal

pub returns : goal.returns
returns c content allowed session command path row valid suits known there elsewhere =
    spares-administration content valid session suits allowed command path row there elsewhere known
