use Rattle.port_lanes.proofs.ComingLemmas.{stays_command, stays_unspelled}
use Rattle.port_lanes.proofs.coming.Coming.read.Goals as goal

pub returns-in-Err-clause-comes : goal.returns-in-Err-clause-comes
returns-in-Err-clause-comes c =
    rw c.in-Apdu.is (rw (← c.as_slice.ensures) (c.in-Err.ensures.none, c.in-Err.ensures.refused))

pub returns-in-Ok-clause-stays : goal.returns-in-Ok-clause-stays
returns-in-Ok-clause-stays c =
    rw c.in-Apdu.is (rw (← c.as_slice.ensures)
    (stays_command c.in-Apdu.port c.as_slice.result.now c.in-Ok.command c.in-Ok.ensures.spelled
    c.in-Ok.ensures.only))

pub returns-in-Err-clause-stays : goal.returns-in-Err-clause-stays
returns-in-Err-clause-stays c =
    rw c.in-Apdu.is (rw (← c.as_slice.ensures)
    (stays_unspelled c.in-Apdu.port c.as_slice.result.now c.in-Err.sw c.in-Err.ensures.none))
