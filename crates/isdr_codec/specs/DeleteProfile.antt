-- GSMA SGP.22, ES10c.DeleteProfile: the profile.
use Rattle.std.specs.Prelude.{ℕ, List, Option, option_map}
use Rattle.isdr_codec.specs.Who.{who_in}
use Rattle.isdr_codec.specs.declared.request.Request.{Request}
use Rattle.isdr_codec.specs.declared.request.Request.TheVariants.{Delete}

abbrev pub delete_in : List ℕ → Option Request
delete_in value = option_map Delete (who_in value)
