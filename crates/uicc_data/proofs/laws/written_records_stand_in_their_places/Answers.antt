use Rattle.uicc_data.proofs.WriteLemmas.{first_written, later_written, other_written}
use Rattle.uicc_data.proofs.WriteLemmas.{record_written}
use Rattle.uicc_data.proofs.laws.written_records_stand_in_their_places.Goals as goal

pub returns-clause-written : goal.returns-clause-written
returns-clause-written c row number bytes whole has exact =
    record_written row number bytes whole has exact

pub returns-clause-first : goal.returns-clause-first
returns-clause-first c row bytes exact =
    first_written row bytes exact

pub returns-clause-later : goal.returns-clause-later
returns-clause-later c row number bytes whole has some exact =
    later_written row number bytes whole has some exact

pub returns-clause-others : goal.returns-clause-others
returns-clause-others c row number other bytes whole has its apart exact =
    other_written row number other bytes whole has its apart exact
