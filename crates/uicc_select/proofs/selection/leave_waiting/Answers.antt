use Rattle.uicc_select.proofs.SelectionLemmas.{waiting-moved}
use Rattle.uicc_select.proofs.selection.leave_waiting.Goals as goal

pub returns-in-None-Some : goal.returns-in-None-Some
returns-in-None-Some c session number is_open =
    rw (c.in-None-Some.is-0, c.in-None-Some.is-1, c.from_slice-chan.ensures, c.as_slice.ensures.value) (waiting-moved session number c.args.chan.now c.in-None-Some.bytes is_open)
