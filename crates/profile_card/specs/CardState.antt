use Rattle.std.specs.Prelude.{List, [], Some, Option, IfSome, ⊤}
use Rattle.file_rows.specs.Change.{changed}
use Rattle.file_rows.specs.declared.change.Change.{Change}
use Rattle.file_rows.specs.declared.change.Change.TheVariants.{FileAdd, FileSize}
use Rattle.file_rows.specs.declared.content.Content.{Content}
use Rattle.file_rows.specs.declared.pin.PinRow.{PinRow}
use Rattle.uicc_channels.specs.declared.session.Session.{Session}
use Rattle.uicc_tree.specs.Change.{HasRoom}
use Rattle.uicc_tree.specs.Files.{Files, rows_of}
use Rattle.profile_card.specs.Card.{Card}
use Rattle.profile_card.specs.declared.place.Place.{Place}

-- what contracts see of a card at a port: its files, with the memory that is reserved among them,
-- its PINs, its session and its place
pub record CardState : Type 0 where
  pub tree : Files
  pub pins : List PinRow
  pub session : Session
  pub place : Place

abbrev pub content_of : CardState → Content
content_of state = record { rows = rows_of state.tree; pins = state.pins }

-- the card that it is
abbrev pub card_of : CardState → Card
card_of state =
    record {
      content = content_of state;
      session = state.session;
      mode = state.place.mode;
      port = Some state.place.port;
    }

-- the memory that a change needs is reserved
abbrev pub HasRoomFor : CardState → Option Change → Type 0
HasRoomFor state change = IfSome change (HasRoom state.tree)

-- the changes for which memory may be wanting: a new file, and a file's size
abbrev pub TakesRoom : Change → Type 0
TakesRoom (FileAdd head) = ⊤
TakesRoom (FileSize path size) = ⊤
TakesRoom _ = ⊥

-- the PINs after a change of a content
abbrev pub pins_after : List PinRow → Change → List PinRow
pins_after pins change = (changed (record { rows = []; pins = pins }) change).pins
