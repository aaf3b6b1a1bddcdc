-- GSMA SGP.22, ES10c.GetProfilesInfo: A0 with what is searched for, and 5C with the tags of the
-- fields that are asked for.
use Rattle.std.specs.Prelude.{ℕ, Bool, ◌+◌, ◌*◌, ◌%◌, ◌==◌, ◌&&◌, nat_lt, if◌then◌else◌, List, []}
use Rattle.std.specs.Prelude.{◌∷◌, Option, Some, None, option_and_then, option_map}
use Rattle.std.specs.List.{list_any}
use Rattle.isdr_codec.specs.Fields.{field_in}
use Rattle.isdr_codec.specs.Search.{search_where}
use Rattle.isdr_codec.specs.declared.request.Request.{Request}
use Rattle.isdr_codec.specs.declared.request.Request.TheVariants.{Info}

-- The tags of a list of tags, of one to three bytes each: after a byte whose low five bits are all
-- set comes one below 80, or one from 81 on and then one below 80.
abbrev pub tags_in : List ℕ → Option (List ℕ)
tags_in [] = Some []
tags_in (a ∷ []) = if a % 32 == 31 then None else Some (a ∷ [])
tags_in (a ∷ b ∷ []) =
    if a % 32 == 31 then (if nat_lt b 128 then Some ((a * 256 + b) ∷ []) else None)
    else option_map (λ tags. a ∷ tags) (tags_in (b ∷ []))
tags_in (a ∷ b ∷ c ∷ more) =
    if a % 32 == 31
    then (if nat_lt b 128 then option_map (λ tags. (a * 256 + b) ∷ tags) (tags_in (c ∷ more))
    else (if nat_lt 128 b && nat_lt c 128
    then option_map (λ tags. ((a * 256 + b) * 256 + c) ∷ tags) (tags_in more)
    else None))
    else option_map (λ tags. a ∷ tags) (tags_in (b ∷ c ∷ more))

-- whether a tag is among these
abbrev pub has_tag : ℕ → List ℕ → Bool
has_tag tag tags = list_any (λ other. other == tag) tags

-- the bit of a field, where its tag is among these
abbrev pub bit_of_tag : ℕ → ℕ → List ℕ → ℕ
bit_of_tag tag bit tags = if has_tag tag tags then bit else 0

-- the fields that are asked for, a bit for each: from bit 0 the ICCID, the AID, the state, the
-- port, the nickname, the service provider, the name and the class
abbrev pub fields_asked : List ℕ → ℕ
fields_asked tags =
    bit_of_tag 0x5A 1 tags + bit_of_tag 0x4F 2 tags + bit_of_tag 0x9F70 4 tags
    + bit_of_tag 0x9F24 8 tags + bit_of_tag 0x90 16 tags + bit_of_tag 0x91 32 tags
    + bit_of_tag 0x92 64 tags + bit_of_tag 0x95 128 tags

-- all eight where none is named
abbrev pub fields_where : Option (List ℕ) → Option ℕ
fields_where None = Some 0xFF
fields_where (Some value) = option_map fields_asked (tags_in value)

abbrev pub profiles_info_in : List ℕ → Option Request
profiles_info_in value = option_and_then
    (λ search. option_map (Info search) (option_and_then fields_where (field_in 0x5C value)))
    (option_and_then search_where (field_in 0xA0 value))
