-- Why a statement wasn't carried out.
use Rattle.std.specs.Prelude.{Option, Some, None}
use Rattle.card_book.specs.declared.fault.BookFault.{BookFault}
use Rattle.card_book.specs.declared.fault.BookFault.TheVariants.{Store, Unfit as DidNotFit}
use Rattle.card_core.specs.declared.entry.Cause.{Cause}
use Rattle.card_core.specs.declared.entry.Cause.TheVariants.{Faults, RowFull, Unfit}
use Rattle.card_journal.specs.declared.commit_fault.CommitFault.TheVariants.{Flash, Worn, NoMemory}
use Rattle.port_lanes.specs.declared.unstored.Unstored.{Unstored}
use Rattle.port_lanes.specs.declared.unstored.Unstored.TheVariants.{Memory, Refused}

-- the reason that a refused commit gives; a full switch row has 4,096 bytes
abbrev pub reason_of : BookFault → Unstored
reason_of (Store (Flash before after)) = Refused (Faults before after)
reason_of (Store Worn) = Refused (RowFull 4096)
reason_of (Store NoMemory) = Memory
reason_of DidNotFit = Refused Unfit

-- the cause that is told of it: none out of memory, where the answer is `6F00`, and else that of
-- `6581`
abbrev pub cause_in : Unstored → Option Cause
cause_in Memory = None
cause_in (Refused cause) = Some cause
