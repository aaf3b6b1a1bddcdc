use Rattle.uicc_data.proofs.ReadBackLemmas.{read_back}
use Rattle.uicc_data.proofs.laws.written_bytes_are_read_back.Goals as goal

pub returns : goal.returns
returns c content allowed session write change read valid back =
    read_back content valid allowed session write change read back
