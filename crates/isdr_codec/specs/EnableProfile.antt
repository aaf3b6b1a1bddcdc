-- GSMA SGP.22, ES10c.EnableProfile: A0 with the profile, 81 whether a refresh is asked for, and
-- where it is named 82 the target port.
use Rattle.std.specs.Prelude.{ℕ, List, Option, Some, None, option_and_then, option_map}
use Rattle.isdr_codec.specs.Fields.{field_in, needed_in, sole}
use Rattle.isdr_codec.specs.Values.{flag_in}
use Rattle.isdr_codec.specs.Who.{who_in}
use Rattle.isdr_codec.specs.declared.request.Request.{Request}
use Rattle.isdr_codec.specs.declared.request.Request.TheVariants.{Enable}

abbrev pub port_where : Option (List ℕ) → Option (Option ℕ)
port_where None = Some None
port_where (Some value) = option_map Some (sole value)

abbrev pub enable_in : List ℕ → Option Request
enable_in value = option_and_then (λ who. option_and_then
    (λ refresh. option_map (Enable who refresh)
    (option_and_then port_where (field_in 0x82 value)))
    (option_and_then flag_in (needed_in 0x81 value)))
    (option_and_then who_in (needed_in 0xA0 value))
