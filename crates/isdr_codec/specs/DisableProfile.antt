-- GSMA SGP.22, ES10c.DisableProfile: A0 with the profile, and 81 whether a refresh is asked for.
use Rattle.std.specs.Prelude.{ℕ, List, Option, option_and_then, option_map}
use Rattle.isdr_codec.specs.Fields.{needed_in}
use Rattle.isdr_codec.specs.Values.{flag_in}
use Rattle.isdr_codec.specs.Who.{who_in}
use Rattle.isdr_codec.specs.declared.request.Request.{Request}
use Rattle.isdr_codec.specs.declared.request.Request.TheVariants.{Disable}

abbrev pub disable_in : List ℕ → Option Request
disable_in value = option_and_then
    (λ who. option_map (Disable who) (option_and_then flag_in (needed_in 0x81 value)))
    (option_and_then who_in (needed_in 0xA0 value))
