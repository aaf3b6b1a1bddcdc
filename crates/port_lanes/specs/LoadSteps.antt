-- The next bytes of a package at the port of a lane.
use Rattle.std.specs.Prelude.{ℕ, ◌≡◌, ◌⊎◌, List, []}
use Rattle.card_core.specs.Failed.{failed_piece}
use Rattle.card_core.specs.Load.{piece_made}
use Rattle.port_lanes.specs.LaneStep.{StepsPort}
use Rattle.port_lanes.specs.declared.lane_port.LanePort.{LanePort}

-- they are taken, or the load is spoiled out of memory
abbrev pub PieceHappens : LanePort → LanePort → List ℕ → Type 0
PieceHappens before after piece =
    StepsPort (λ state made. made ≡ piece_made state before.number piece) before after []
    ⊎ StepsPort (λ state made. made ≡ failed_piece state before.number) before after []
