-- GSMA SGP.22, ES10c.GetEID: 5C with the tag 5A alone.
use Rattle.std.specs.Prelude.{ℕ, ◌==◌, if◌then◌else◌, List, Option, Some, None, option_and_then}
use Rattle.isdr_codec.specs.Fields.{needed_in, sole}
use Rattle.isdr_codec.specs.declared.request.Request.{Request}
use Rattle.isdr_codec.specs.declared.request.Request.TheVariants.{Eid}

abbrev pub eid_in : List ℕ → Option Request
eid_in value = option_and_then (λ tag. if tag == 0x5A then Some Eid else None)
    (option_and_then sole (needed_in 0x5C value))
