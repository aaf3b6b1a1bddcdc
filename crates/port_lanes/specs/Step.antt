-- One step of a lane by itself.
use Rattle.std.specs.Prelude.{◌≡◌, List, Option}
use Rattle.card_book.specs.declared.entry.HistoryEntry.{HistoryEntry}
use Rattle.card_core.specs.Stretch.{PortView, StaysAt}
use Rattle.card_core.specs.AtPort.{port_state}
use Rattle.card_core.specs.declared.event.Event.{Event}
use Rattle.port_lanes.specs.Lane.{LaneState}
use Rattle.port_lanes.specs.LaneStep.{CommitsFrom, HappensFor, StepsPort}
use Rattle.port_lanes.specs.declared.lane_port.LanePort.{LanePort}
use Rattle.port_lanes.specs.declared.unstored.Unstored.{Unstored}
use Rattle.profile_card.specs.CardState.{content_of}
use Rattle.record_codec.specs.declared.durable.Durable.{Durable}
use Rattle.record_codec.specs.declared.record.Record.{Record}

-- what the statements of a port look at, as its lane has it
abbrev pub view_of : LanePort → PortView
view_of lane = record {
  port = port_state lane.port;
  content = content_of lane.port.card;
  mode = lane.port.card.place.mode;
  count = lane.count;
  turn = lane.turn;
}

-- the statement comes to the lane's port and needs no more of the card than that
abbrev pub StaysInLane : LanePort → Event → Type 0
StaysInLane lane event = StaysAt lane.number (view_of lane) event

-- A lane made this statement, or it failed, and its records went through the keeper; nothing but
-- the lane's port and log changed.
pub record MakesNext (begun : Durable) (may_come : List HistoryEntry → Type 0)
    (known knows : List HistoryEntry) (before after : LaneState) (event : Event) : Type 0 where
  pub failure : Option Unstored
  pub records : List Record
  pub commits : CommitsFrom begun may_come known knows before.pass.port failure records
  pub steps : StepsPort (HappensFor failure event) before.at after.at records
  pub rest : after ≡ record before { at = after.at }
