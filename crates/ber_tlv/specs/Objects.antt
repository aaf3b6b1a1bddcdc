-- How the bytes of data objects are read: by cases, from the first byte on. The law
-- `reading_finds_what_stands_there` says that this is what the bytes spell.
use Rattle.std.specs.Prelude.{ℕ, zero, suc, ◌+◌, ◌*◌, ◌%◌, ◌==◌, ◌&&◌, nat_le, nat_lt}
use Rattle.std.specs.Prelude.{if◌then◌else◌, List, [], ◌∷◌, length, take, drop, Option, Some, None}
use Rattle.std.specs.Prelude.{option_and_then, option_map}
use Rattle.ber_tlv.specs.Walk.{Object}

-- what was read at the beginning of some bytes, and the bytes behind it
pub record Read (X : Type 0) : Type 0 where
  pub found : X
  pub behind : List ℕ

-- a tag whose first byte is this one, of which the low five bits are set
unfoldable pub long_tag : ℕ → List ℕ → Option (Read ℕ)
long_tag a [] = None
long_tag a (b ∷ []) =
    if nat_lt b 128 then Some (record { found = a * 256 + b; behind = [] }) else None
long_tag a (b ∷ c ∷ more) =
    if nat_lt b 128 then Some (record { found = a * 256 + b; behind = c ∷ more })
    else (if nat_lt 128 b && nat_lt b 256 && nat_lt c 128
    then Some (record { found = (a * 256 + b) * 256 + c; behind = more })
    else None)

unfoldable pub tag_at : List ℕ → Option (Read ℕ)
tag_at [] = None
tag_at (a ∷ more) =
    if nat_lt a 256
    then (if a % 32 == 31 then long_tag a more else Some (record { found = a; behind = more }))
    else None

-- a length of two to four bytes, of which the first is this one
unfoldable pub long_length : ℕ → List ℕ → Option (Read ℕ)
long_length a [] = None
long_length a (b ∷ []) =
    if a == 0x81 && nat_lt b 256 then Some (record { found = b; behind = [] }) else None
long_length a (b ∷ c ∷ []) =
    if a == 0x81 && nat_lt b 256 then Some (record { found = b; behind = c ∷ [] })
    else (if a == 0x82 && nat_lt b 256 && nat_lt c 256
    then Some (record { found = b * 256 + c; behind = [] })
    else None)
long_length a (b ∷ c ∷ d ∷ more) =
    if a == 0x81 && nat_lt b 256 then Some (record { found = b; behind = c ∷ d ∷ more })
    else (if a == 0x82 && nat_lt b 256 && nat_lt c 256
    then Some (record { found = b * 256 + c; behind = d ∷ more })
    else (if a == 0x83 && nat_lt b 256 && nat_lt c 256 && nat_lt d 256
    then Some (record { found = (b * 256 + c) * 256 + d; behind = more })
    else None))

unfoldable pub length_at : List ℕ → Option (Read ℕ)
length_at [] = None
length_at (a ∷ more) =
    if nat_lt a 128 then Some (record { found = a; behind = more }) else long_length a more

-- a value of that length under this tag
unfoldable pub value_at : ℕ → Read ℕ → Option (Read Object)
value_at tag size =
    if nat_le size.found (length size.behind)
    then Some (record {
      found = record { tag = tag; value = take size.found size.behind };
      behind = drop size.found size.behind;
    })
    else None

-- the data object at the beginning of the bytes
unfoldable pub object_at : List ℕ → Option (Read Object)
object_at bytes = option_and_then
    (λ (tag : Read ℕ). option_and_then (value_at tag.found) (length_at tag.behind)) (tag_at bytes)

-- the data objects that fill the bytes, of which there are no more than so many
unfoldable pub objects_in : ℕ → List ℕ → Option (List Object)
objects_in most [] = Some []
objects_in zero (b ∷ bytes) = None
objects_in (suc most) (b ∷ bytes) = option_and_then
    (λ (read : Read Object). option_map (λ objects. read.found ∷ objects)
    (objects_in most read.behind)) (object_at (b ∷ bytes))

unfoldable pub objects_of : List ℕ → Option (List Object)
objects_of bytes = objects_in (length bytes) bytes
