use Rattle.std.specs.Prelude.{ℕ, ◌+◌, ◌*◌, ◌%◌, Bool, ◌==◌, ◌&&◌, ◌||◌, if◌then◌else◌, List, []}
use Rattle.std.specs.Prelude.{◌∷◌, length, Option, Some, None, option_map}
use Rattle.apdu_codec.specs.Class.{is_within}
use Rattle.uicc_select.specs.declared.naming.Target.{Target}
use Rattle.uicc_select.specs.declared.naming.Target.TheVariants.{Id, Directory, Parent, Named}
use Rattle.uicc_select.specs.declared.naming.Target.TheVariants.{FromMaster, FromCurrent}

-- ETSI TS 102 221, SELECT: P1 is one of the selection methods
abbrev pub is_selection_method : ℕ → Bool
is_selection_method p1 =
    (p1 == 0x00) || (p1 == 0x01) || (p1 == 0x03) || (p1 == 0x04) || (p1 == 0x08) || (p1 == 0x09)

-- a file identifier, in two bytes
abbrev pub id_in : List ℕ → Option ℕ
id_in [] = None
id_in (a ∷ []) = None
id_in (high ∷ low ∷ []) = Some (high * 256 + low)
id_in (a ∷ b ∷ c ∷ more) = None

-- each two bytes as an identifier
abbrev pub ids_in : List ℕ → List ℕ
ids_in [] = []
ids_in (a ∷ []) = []
ids_in (high ∷ low ∷ rest) = (high * 256 + low) ∷ ids_in rest

-- one to four identifiers
abbrev pub path_in : List ℕ → Option (List ℕ)
path_in body =
    if (length body % 2 == 0) && is_within 2 8 (length body) then Some (ids_in body) else None

-- 5 to 16 bytes
abbrev pub name_in : List ℕ → Option (List ℕ)
name_in body = if is_within 5 16 (length body) then Some body else None

abbrev pub nothing_in : List ℕ → Option Target
nothing_in body = if length body == 0 then Some Parent else None

-- what a body names under this P1, where it has a length that goes with it
abbrev pub target_of : ℕ → List ℕ → Option Target
target_of p1 body =
    if p1 == 0x00 then option_map Id (id_in body)
    else if p1 == 0x01 then option_map Directory (id_in body)
    else if p1 == 0x03 then nothing_in body
    else if p1 == 0x04 then option_map Named (name_in body)
    else if p1 == 0x08 then option_map FromMaster (path_in body)
    else if p1 == 0x09 then option_map FromCurrent (path_in body)
    else None
