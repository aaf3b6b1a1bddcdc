-- A lane of a section.
use Rattle.std.specs.Prelude.{ℕ, ◌≡◌, ◌≤◌, ◌<◌, ◌+◌, ◌^◌, [], drop, length, Option, Some, None}
use Rattle.std.specs.Prelude.{unwrap_or}
use Rattle.std.specs.List.{sum_by}
use Rattle.card_book.specs.Pass.{PassState}
use Rattle.card_core.specs.LoadState.{LoadState}
use Rattle.card_core.specs.Run.{package_bytes}
use Rattle.card_core.specs.declared.event.Event.{Event}
use Rattle.port_lanes.specs.LanePort.{HasItsSession}
use Rattle.port_lanes.specs.Part.{IsPart, next_until}
use Rattle.port_lanes.specs.declared.lane_port.LanePort.{LanePort}
use Rattle.port_lanes.specs.declared.part.Part.{Part}

-- what contracts see of a lane: its port, what it has to do there, how many phases it knows to have
-- ended, and its pass
pub record LaneState : Type 0 where
  pub at : LanePort
  pub part : Part
  pub ended : ℕ
  pub pass : PassState

-- how many bytes of a package a load has
abbrev pub bytes_of_load : Option LoadState → ℕ
bytes_of_load None = 0
bytes_of_load (Some load) = length (unwrap_or load.received [])

-- the bytes of packages that came and those that are still to come are fewer than 4,294,967,296
abbrev pub FitsPackages : LaneState → Type 0
FitsPackages lane = bytes_of_load lane.at.port.load
    + sum_by package_bytes (drop lane.at.port.statements lane.part.statements) < 2 ^ 32

-- its statements are those of its port, and so is its pass; no more were made than there are
pub record IsLane (lane : LaneState) : Type 0 where
  pub part : IsPart lane.at.number lane.part
  pub pass : lane.pass.port ≡ lane.at.number
  pub made : lane.at.port.statements ≤ length lane.part.statements
  pub session : HasItsSession lane.at
  pub bytes : FitsPackages lane

-- the statement that comes next in its phase
abbrev pub next_in_phase : LaneState → Option Event
next_in_phase lane = next_until lane.part lane.ended lane.at.port.statements
