-- The items of a script, whose bytes lie in one pool.
use Rattle.std.specs.Prelude.{ℕ, ◌≤◌, List, map, All, length, slice_range, ⊤}
use Rattle.card_core.specs.declared.event.Event.{Event}
use Rattle.card_core.specs.declared.event.Event.TheVariants.{Apdu, Reset, Load}
use Rattle.card_core.specs.declared.event.LoadStep.TheVariants.{Begin, Piece, End}
use Rattle.card_core.specs.declared.script.Statement.{Statement}
use Rattle.script_text.specs.Item.{Item}
use Rattle.script_text.specs.Item.Item.{Stated, PhaseEnd, SectionEnd}
use Rattle.script_text.specs.declared.script_items.Act.{Act}
use Rattle.script_text.specs.declared.script_items.Entry.{Entry}
use Rattle.script_text.specs.declared.script_items.Place.{Place}

-- what is done at a port with these bytes
abbrev pub event_by : Act → ℕ → List ℕ → Event
event_by Act.Command port bytes = Apdu port bytes
event_by Act.PortReset port bytes = Reset port
event_by Act.LoadBegin port bytes = Load port (Begin bytes)
event_by Act.LoadPiece port bytes = Load port (Piece bytes)
event_by Act.LoadEnd port bytes = Load port End

-- the statement whose bytes lie at a place of the pool
abbrev pub statement_at : List ℕ → Place → Statement
statement_at pool place =
    record {
      line = place.line;
      event = event_by place.act place.port (slice_range pool place.from place.to);
    }

abbrev pub item_at : List ℕ → Entry → Item
item_at pool (Entry.Stated place) = Stated (statement_at pool place)
item_at pool Entry.PhaseEnd = PhaseEnd
item_at pool Entry.SectionEnd = SectionEnd

abbrev pub pooled_items : List ℕ → List Entry → List Item
pooled_items pool entries = map (item_at pool) entries

-- the bytes of an entry lie within the pool
abbrev pub LiesWithin : List ℕ → Entry → Type 0
LiesWithin pool (Entry.Stated place) = (place.from ≤ place.to) × (place.to ≤ length pool)
LiesWithin pool Entry.PhaseEnd = ⊤
LiesWithin pool Entry.SectionEnd = ⊤

abbrev pub LieWithin : List ℕ → List Entry → Type 0
LieWithin pool entries = All (LiesWithin pool) entries
