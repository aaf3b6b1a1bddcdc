use Rattle.uicc_data.proofs.RecordBackLemmas.{record_back}
use Rattle.uicc_data.proofs.laws.written_records_are_read_back.Goals as goal

pub returns : goal.returns
returns c content allowed session write change read valid suits back =
    record_back content valid allowed session suits write change read back
