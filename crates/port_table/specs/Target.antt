-- The port on which a profile is enabled (GSMA SGP.22, ES10c.EnableProfile with Multiple Enabled
-- Profiles).
use Rattle.std.specs.Prelude.{ℕ, suc, ◌≡◌, ◌≢◌, ◌<◌, ◌≤◌, Bool, not, ◌==◌, ◌&&◌, nat_lt, List, drop}
use Rattle.std.specs.Prelude.{length, slice_get, position, Option, Some, None, is_some, option_map}
use Rattle.std.specs.Prelude.{Result, Ok, Err, if◌then◌else◌}
use Rattle.std.specs.Option.{ok_or}
use Rattle.port_table.specs.declared.port_mode.PortMode.{PortMode}
use Rattle.port_table.specs.declared.port_mode.PortMode.TheVariants.{A1, A2, B}
use Rattle.port_table.specs.declared.ports.Ports.{Ports}
use Rattle.port_table.specs.declared.target.TargetFault.{TargetFault}
use Rattle.port_table.specs.declared.target.TargetFault.TheVariants.{NotUsable, NoneFree}

-- the number with which an enabling is refused for it
abbrev pub fault_number : TargetFault → ℕ
fault_number NotUsable = 7
fault_number NoneFree = 9

-- no profile stands on the port
abbrev pub HasNoProfile : Ports → ℕ → Type 0
HasNoProfile ports port = slice_get ports.on port ≡ Some None

abbrev pub is_free_place : Option ℕ → Bool
is_free_place place = not (is_some place)

-- the lowest port from 1 on which no profile stands
abbrev pub lowest_free : List (Option ℕ) → Option ℕ
lowest_free on = option_map suc (position is_free_place (drop 1 on))

-- a port that may be named: not port 0, and one of the card's
abbrev pub usable : ℕ → Option ℕ → Result ℕ TargetFault
usable count None = Err NotUsable
usable count (Some port) = if not (port == 0) && nat_lt port count then Ok port else Err NotUsable

-- in MEP-A1 the port named by the request, in MEP-A2 the lowest free port from 1, in MEP-B the port
-- on which the request came
abbrev pub target_in : PortMode → Ports → ℕ → Option ℕ → Result ℕ TargetFault
target_in A1 ports came given = usable ports.count given
target_in A2 ports came given = ok_or (lowest_free ports.on) NoneFree
target_in B ports came given = Ok came

abbrev pub target_port : Ports → ℕ → Option ℕ → Result ℕ TargetFault
target_port ports came given = target_in ports.mode ports came given

-- the lowest of the free ports from 1
pub record IsLowestFree (ports : Ports) (port : ℕ) : Type 0 where
  pub free : HasNoProfile ports port
  pub from_1 : 1 ≤ port
  pub lowest : (other : ℕ) → 1 ≤ other → other < port → ¬ HasNoProfile ports other
