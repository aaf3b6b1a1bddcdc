use Rattle.std.specs.Prelude.{ℕ, Bool, false, ◌≡◌, ◌≢◌, ◌<◌, ◌==◌, if◌then◌else◌, map, length}
use Rattle.std.specs.Prelude.{slice_get, slice_set, Option, Some, None}
use Rattle.port_table.specs.declared.port_mode.PortMode.{PortMode}
use Rattle.port_table.specs.declared.port_mode.PortMode.TheVariants.{A1, A2, B}
use Rattle.port_table.specs.declared.ports.Ports.{Ports}

-- the profile stands on the port
abbrev pub StandsOn : Ports → ℕ → ℕ → Type 0
StandsOn ports profile port = slice_get ports.on port ≡ Some (Some profile)

-- the profile stands on no port
abbrev pub StandsNowhere : Ports → ℕ → Type 0
StandsNowhere ports profile = (port : ℕ) → ¬ StandsOn ports profile port

-- the ports on which a profile may stand: in MEP-A1 and MEP-A2 each but port 0, in MEP-B each (GSMA
-- SGP.22, Multiple Enabled Profiles)
abbrev pub HasProfiles : PortMode → ℕ → Type 0
HasProfiles A1 port = port ≢ 0
HasProfiles A2 port = port ≢ 0
HasProfiles B port = port ≡ port

-- The port rule: a place for each of the card's ports, no profile on two ports, and each profile on
-- a port where one may stand. A place holds one profile or none, so that no port has two.
pub record KeepsPortRule (ports : Ports) : Type 0 where
  pub count : length ports.on ≡ ports.count
  pub one_port : (profile one other : ℕ) → StandsOn ports profile one → StandsOn ports profile other
      → one ≡ other
  pub places : (profile port : ℕ) → StandsOn ports profile port → HasProfiles ports.mode port

-- the ports with this profile on a port, and what stood there on none
abbrev pub bound : ℕ → ℕ → Ports → Ports
bound profile port ports = record ports { on = slice_set ports.on port (Some profile) }

-- whether a place holds the profile
abbrev pub holds : ℕ → Option ℕ → Bool
holds profile None = false
holds profile (Some other) = other == profile

-- a place without the profile
abbrev pub freed : ℕ → Option ℕ → Option ℕ
freed profile place = if holds profile place then None else place

-- the ports with this profile on none
abbrev pub unbound : ℕ → Ports → Ports
unbound profile ports = record ports { on = map (freed profile) ports.on }

-- the profile may be bound to the port
pub record MayBind (ports : Ports) (profile port : ℕ) : Type 0 where
  pub count : length ports.on ≡ ports.count
  pub below : port < ports.count
  pub place : HasProfiles ports.mode port
  pub nowhere : StandsNowhere ports profile
