use Rattle.std.specs.Prelude.{List, Option, Some, None, IfSome}
use Rattle.file_rows.specs.Change.{Fits, changed}
use Rattle.file_rows.specs.Content.{IsValid}
use Rattle.file_rows.specs.declared.change.Change.{Change}
use Rattle.file_rows.specs.declared.content.Content.{Content}
use Rattle.file_rows.specs.declared.pin.PinRow.{PinRow}
use Rattle.file_rows.specs.declared.row.FileRow.{FileRow}
use Rattle.uicc_channels.specs.CommandOutcome.{CommandOutcome}
use Rattle.uicc_channels.specs.Session.{Suits}
use Rattle.uicc_channels.specs.declared.session.Session.{Session}

-- a content with a change made, where there is one
abbrev pub content_after : Content → Option Change → Content
content_after content None = content
content_after content (Some change) = changed content change

-- a card of this content can carry out what a command comes to: the change fits the content, and
-- the session suits the files that are there then
pub record CanCarryOut (content : Content) (outcome : CommandOutcome) : Type 0 where
  pub change : IfSome outcome.change (Fits content)
  pub session : Suits outcome.session (content_after content outcome.change).rows

-- a card may hold these files, and the session suits them
abbrev pub IsOfCard : List FileRow → Session → Type 0
IsOfCard rows session =
    (pins : List PinRow) × IsValid (record { rows = rows; pins = pins }) × Suits session rows
