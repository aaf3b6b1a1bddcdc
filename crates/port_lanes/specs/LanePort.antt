-- The port of a lane, and the card where it is.
use Rattle.std.specs.Prelude.{◌≡◌, ◌<◌, length}
use Rattle.card_core.specs.AtPort.{IsAtPort, port_state}
use Rattle.card_core.specs.Port.{profile_on}
use Rattle.card_core.specs.World.{WorldState, port_in}
use Rattle.profile_card.specs.CardState.{card_of}
use Rattle.port_lanes.specs.declared.lane_port.LanePort.{LanePort}

-- it is that port of the card: what stands there is the card's, and so are the profile, the number
-- of the ports and how many shared statements came
pub record IsPortOf (state : WorldState) (lane : LanePort) : Type 0 where
  pub below : lane.number < state.durable.heads.ports.count
  pub count : lane.count ≡ state.durable.heads.ports.count
  pub ports : length state.ports ≡ state.durable.heads.ports.count
  pub stands : port_in state lane.number ≡ port_state lane.port
  pub here : IsAtPort state.durable lane.number lane.port
  pub profile : lane.profile ≡ profile_on state.durable lane.number
  pub turn : lane.turn ≡ state.shared

-- its card is in the session of the port
abbrev pub HasItsSession : LanePort → Type 0
HasItsSession lane = (card_of lane.port.card).session ≡ lane.port.session
