-- The port of a profile.
use Rattle.std.specs.Prelude.{ℕ, suc, if◌then◌else◌, List, [], ◌∷◌, Option, Some, None, option_map}
use Rattle.port_table.specs.Ports.{holds}

-- the port on which the profile stands, if it stands on one
abbrev pub port_of : ℕ → List (Option ℕ) → Option ℕ
port_of profile [] = None
port_of profile (place ∷ places) =
    if holds profile place then Some 0 else option_map suc (port_of profile places)
