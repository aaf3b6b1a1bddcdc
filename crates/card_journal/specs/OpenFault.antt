-- Why no store was opened.
use Rattle.std.specs.Prelude.{ℕ, ◌≡◌, ⊤}
use Rattle.card_journal.specs.declared.open_fault.OpenFault.{OpenFault}
use Rattle.card_journal.specs.declared.open_fault.OpenFault.TheVariants.{Flash, NotACard, Worn}
use Rattle.card_journal.specs.declared.open_fault.OpenFault.TheVariants.{NoMemory}
use Rattle.port_io.specs.Faults.{Rose}

-- the flash failed only where its count of faults rose, from the one count to the other
abbrev pub HasRisen : ℕ → ℕ → OpenFault → Type 0
HasRisen old new (Flash before after) = Rose old new × (before ≡ old) × (after ≡ new)
HasRisen old new NotACard = ⊤
HasRisen old new Worn = ⊤
HasRisen old new NoMemory = ⊤
