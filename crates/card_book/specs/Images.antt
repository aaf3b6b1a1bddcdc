-- What the images since a section began hold.
use Rattle.std.specs.Prelude.{ℕ, ◌≡◌, ◌⊎◌, List, ◌++◌}
use Rattle.card_book.specs.History.{records_of}
use Rattle.card_book.specs.Unrepaired.{FailedAt}
use Rattle.card_book.specs.declared.entry.HistoryEntry.{HistoryEntry}
use Rattle.record_codec.specs.Apply.{apply, fold}
use Rattle.record_codec.specs.declared.durable.Durable.{Durable}
use Rattle.record_codec.specs.declared.record.Record.{Record}

-- what the card held behind some beginning of the history
abbrev pub WasHeld : Durable → List HistoryEntry → Durable → Type 0
WasHeld begun history held =
    (before later : List HistoryEntry) × (history ≡ before ++ later)
    × (held ≡ fold begun (records_of before))

-- what the card held where the flash failed a commit, and then the record of that
abbrev pub WasFailed : Durable → List HistoryEntry → Durable → Type 0
WasFailed begun history held =
    (before : List HistoryEntry) × (entry : Record) × (later : List HistoryEntry)
    × FailedAt history before entry later
    × (held ≡ apply (fold begun (records_of before)) entry)

-- The image holds what the records of a beginning of the history make of the card, or that after
-- one more record, whose commit the flash failed just there.
abbrev pub HoldsPart : (List ℕ → Durable → Type 0) → Durable → List HistoryEntry → List ℕ → Type 0
HoldsPart holds begun history image =
    (held : Durable) × (WasHeld begun history held ⊎ WasFailed begun history held)
    × holds image held
