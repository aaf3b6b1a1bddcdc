-- The fault that is reported where no card was opened.
use Rattle.std.specs.Prelude.{ℕ}
use Rattle.card_journal.specs.declared.fault.ReadFault.TheVariants as reads
use Rattle.card_journal.specs.declared.open.NotOpened.{NotOpened}
use Rattle.card_journal.specs.declared.open.NotOpened.TheVariants.{Read, Worn}
use Rattle.card_journal.specs.declared.open_fault.OpenFault.{OpenFault}
use Rattle.card_journal.specs.declared.open_fault.OpenFault.TheVariants as faults

abbrev pub fault_of : ℕ → ℕ → NotOpened → OpenFault
fault_of before after (Read reads.Flash) = faults.Flash before after
fault_of before after (Read reads.NotACard) = faults.NotACard
fault_of before after (Read reads.NoMemory) = faults.NoMemory
fault_of before after Worn = faults.Worn
