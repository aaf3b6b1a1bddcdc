-- Which profiles are asked for (GSMA SGP.22, ES10c.GetProfilesInfo): those of a class, or the one
-- that is named.
use Rattle.std.specs.Prelude.{ℕ, List, Option, Some, None, option_and_then, option_map}
use Rattle.isdr_codec.specs.Fields.{field_in, sole}
use Rattle.isdr_codec.specs.Who.{named_by}
use Rattle.isdr_codec.specs.declared.request.Search.{Search}
use Rattle.isdr_codec.specs.declared.request.Search.TheVariants.{All, One, Class}

abbrev pub searched_by : Option (List ℕ) → Option (List ℕ) → Option (List ℕ) → Option Search
searched_by (Some class) None None = option_map Class (sole class)
searched_by (Some class) None (Some iccid) = None
searched_by (Some class) (Some aid) iccid = None
searched_by None aid iccid = option_map One (named_by aid iccid)

-- the fields 95, a class of one byte, 4F and 5A, of which one stands there
abbrev pub search_in : List ℕ → Option Search
search_in value = option_and_then (λ class. option_and_then
    (λ aid. option_and_then (searched_by class aid) (field_in 0x5A value))
    (field_in 0x4F value)) (field_in 0x95 value)

-- all of them where no criterion stands there
abbrev pub search_where : Option (List ℕ) → Option Search
search_where None = Some All
search_where (Some criteria) = search_in criteria
