-- How a request names a profile (GSMA SGP.22, ProfileIdentifier): by the AID of its security domain
-- or by its ICCID.
use Rattle.std.specs.Prelude.{ℕ, List, Option, Some, None, option_and_then, option_map}
use Rattle.isdr_codec.specs.Fields.{field_in}
use Rattle.isdr_codec.specs.Values.{of_length}
use Rattle.isdr_codec.specs.declared.request.Who.{Who}
use Rattle.isdr_codec.specs.declared.request.Who.TheVariants.{Aid, Iccid}

-- by one of both, and not by both
abbrev pub named_by : Option (List ℕ) → Option (List ℕ) → Option Who
named_by None None = None
named_by None (Some iccid) = option_map Iccid (of_length 10 iccid)
named_by (Some aid) None = option_map Aid (of_length 16 aid)
named_by (Some aid) (Some iccid) = None

-- the fields 4F, an AID of 16 bytes, and 5A, an ICCID of 10
abbrev pub who_in : List ℕ → Option Who
who_in value = option_and_then
    (λ aid. option_and_then (named_by aid) (field_in 0x5A value)) (field_in 0x4F value)
