use Rattle.std.specs.Prelude.{ℕ, Bool, true, ◌==◌}
use Rattle.port_table.specs.declared.port_mode.PortMode.{PortMode}
use Rattle.port_table.specs.declared.port_mode.PortMode.TheVariants.{A1, A2, B}

-- GSMA SGP.22, Multiple Enabled Profiles: the ports on which the ISD-R may be selected
abbrev pub has_isdr : PortMode → ℕ → Bool
has_isdr A1 port = port == 0
has_isdr A2 port = port == 0
has_isdr B port = true
