-- Why no card was made.
use Rattle.std.specs.Prelude.{ℕ, ◌≡◌, IfSome}
use Rattle.card_journal.specs.Made.{IsFirstUsed}
use Rattle.card_journal.specs.Read.{OnlyReads}
use Rattle.card_journal.specs.declared.make.NotMade.{NotMade}
use Rattle.card_journal.specs.declared.make.NotMade.TheVariants as reasons
use Rattle.card_journal.specs.declared.make_fault.MakeFault.{MakeFault}
use Rattle.card_journal.specs.declared.make_fault.MakeFault.TheVariants.{Flash, NotBlank, NoMemory}
use Rattle.flash_pages.specs.Flash.{FlashState}
use Rattle.port_io.specs.Faults.{Rose}

-- The flash failed where its count of faults rose. It isn't blank where the byte at that place is
-- its first one that isn't FF, and then it was only read, as where memory was wanting.
abbrev pub IsReason : NotMade → FlashState → FlashState → Type 0
IsReason reasons.Flash old new = Rose old.faults new.faults
IsReason (reasons.NotBlank place) old new =
    IfSome old.bytes (IsFirstUsed 0 place) × OnlyReads old new
IsReason reasons.NoMemory old new = OnlyReads old new

-- the same of the fault that is reported, which has the counts of before and after
abbrev pub IsRefused : MakeFault → FlashState → FlashState → Type 0
IsRefused (Flash before after) old new =
    Rose old.faults new.faults × (before ≡ old.faults) × (after ≡ new.faults)
IsRefused (NotBlank place) old new = IfSome old.bytes (IsFirstUsed 0 place) × OnlyReads old new
IsRefused NoMemory old new = OnlyReads old new

abbrev pub reported : ℕ → ℕ → NotMade → MakeFault
reported before after reasons.Flash = Flash before after
reported before after (reasons.NotBlank place) = NotBlank place
reported before after reasons.NoMemory = NoMemory
