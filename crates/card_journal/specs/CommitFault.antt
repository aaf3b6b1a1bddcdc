-- Why a record was not committed.
use Rattle.std.specs.Prelude.{ℕ, ◌≡◌, ⊤}
use Rattle.card_journal.specs.declared.commit_fault.CommitFault.{CommitFault}
use Rattle.card_journal.specs.declared.commit_fault.CommitFault.TheVariants.{Flash, Worn, NoMemory}
use Rattle.port_io.specs.Faults.{Rose}

-- the flash failed only where its count of faults rose, from the one count to the other
abbrev pub IsCauseOf : ℕ → ℕ → CommitFault → Type 0
IsCauseOf old new (Flash before after) = Rose old new × (before ≡ old) × (after ≡ new)
IsCauseOf old new Worn = ⊤
IsCauseOf old new NoMemory = ⊤
