-- The fields of a request or of metadata (GSMA SGP.22): data objects in any order, of which those
-- with unknown tags are passed over.
use Rattle.std.specs.Prelude.{ℕ, Bool, ◌==◌, if◌then◌else◌, List, [], ◌∷◌, Option, Some, None}
use Rattle.std.specs.Prelude.{option_and_then}
use Rattle.ber_tlv.specs.Objects.{objects_of}
use Rattle.ber_tlv.specs.Walk.{Object}

-- the values of the objects with this tag
abbrev pub values_of : ℕ → List Object → List (List ℕ)
values_of tag [] = []
values_of tag (object ∷ objects) =
    if object.tag == tag then object.value ∷ values_of tag objects else values_of tag objects

-- none or one, and no answer where there are more
abbrev pub at_most_one : {X : Type 0} → List X → Option (Option X)
at_most_one [] = Some None
at_most_one (x ∷ []) = Some (Some x)
at_most_one (x ∷ y ∷ more) = None

abbrev pub sole : {X : Type 0} → List X → Option X
sole [] = None
sole (x ∷ []) = Some x
sole (x ∷ y ∷ more) = None

-- the value of the field with this tag, where it stands, in a value that is data objects; no answer
-- where it isn't such, or where the field stands there again
abbrev pub field_in : ℕ → List ℕ → Option (Option (List ℕ))
field_in tag value =
    option_and_then (λ objects. at_most_one (values_of tag objects)) (objects_of value)

-- the same of a field that must be there
abbrev pub needed_in : ℕ → List ℕ → Option (List ℕ)
needed_in tag value = option_and_then (λ found. found) (field_in tag value)

-- what is found with a value more, which is one of the field or not
abbrev pub with_value : Bool → Option (List ℕ) → List ℕ → Option (Option (List ℕ))
with_value its None value = if its then Some (Some value) else Some None
with_value its (Some found) value = if its then None else Some (Some found)

abbrev pub with_object : ℕ → Option (List ℕ) → Object → Option (Option (List ℕ))
with_object tag found object = with_value (object.tag == tag) found object.value
