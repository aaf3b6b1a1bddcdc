-- What a card holds one record later.
use Rattle.std.specs.Prelude.{◌≡◌, List, [], ◌∷◌, Option, Some, None, ⊤}
use Rattle.card_journal.specs.Image.{Leave, MakesCard}
use Rattle.record_codec.specs.Apply.{apply}
use Rattle.record_codec.specs.Begin.{IsBegun}
use Rattle.record_codec.specs.FitsCard.{FitsCard}
use Rattle.record_codec.specs.declared.durable.Durable.{Durable}
use Rattle.record_codec.specs.declared.record.Record.{Record}

-- the record is a card's first one, or one that follows what is held, and this is what it leaves
abbrev pub IsNext : Option Durable → Record → Durable → Type 0
IsNext None entry after = IsBegun entry after
IsNext (Some held) entry after =
    (¬ MakesCard entry) × FitsCard held entry × (after ≡ apply held entry)

-- these records leave this, and no records leave nothing
abbrev pub LeaveSoFar : List Record → Option Durable → Type 0
LeaveSoFar [] None = ⊤
LeaveSoFar [] (Some held) = ⊥
LeaveSoFar (entry ∷ entries) None = ⊥
LeaveSoFar (entry ∷ entries) (Some held) = Leave (entry ∷ entries) held
