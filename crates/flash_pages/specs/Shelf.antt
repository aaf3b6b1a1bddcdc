-- Flashes under names, as a shelf sees them.
use Rattle.std.specs.Prelude.{◌≡◌, ℕ, List, Bool, true, false, IsTrue, Option, Some, None}
use Rattle.std.specs.Prelude.{if◌then◌else◌}
use Rattle.std.specs.Str.{bytes_eq}

-- what is known of one name
pub record ShelfPlace (F : Type 0) : Type 0 where
  -- whether the shelf reports the flash of this name
  pub reports : Bool
  -- the flash that lies there, where the shelf reports it
  pub there : Option F
  -- whether the flash was taken and not given back
  pub is_out : Bool
  -- how many faults of this name there were, those of its flash among them
  pub faults : ℕ

-- a call for one name leaves the places of all others as they were
abbrev pub LeavesOtherNames : {F : Type 0} → List ℕ → (List ℕ → ShelfPlace F)
    → (List ℕ → ShelfPlace F) → Type 0
LeavesOtherNames name old new =
    (other : List ℕ) → bytes_eq other name ≡ false → new other ≡ old other

-- no flash is out
abbrev pub NothingIsOut : {F : Type 0} → (List ℕ → ShelfPlace F) → Type 0
NothingIsOut place = (name : List ℕ) → (place name).is_out ≡ false

-- this flash was taken from its place
pub record IsTaken {F : Type 0} (old new : ShelfPlace F) (flash : F) : Type 0 where
  pub reports : new.reports ≡ old.reports
  pub it_was_there : IsTrue old.reports → old.there ≡ Some flash
  pub gone : new.there ≡ None
  pub out : new.is_out ≡ true
  pub faults : new.faults ≡ old.faults

-- no flash was taken: only the count of faults may have changed
pub record IsLeft {F : Type 0} (old new : ShelfPlace F) : Type 0 where
  pub reports : new.reports ≡ old.reports
  pub there : new.there ≡ old.there
  pub out : new.is_out ≡ old.is_out

-- the place once a flash with that count of faults was given back
abbrev pub given_back : {F : Type 0} → ShelfPlace F → F → ℕ → ShelfPlace F
given_back place flash faults = record place
    { there = if place.reports then Some flash else None; is_out = false; faults = faults }

-- this flash lies there under each name that is reported, or none does
abbrev pub HoldsFlash : {F : Type 0} → (List ℕ → ShelfPlace F) → Option F → Type 0
HoldsFlash place flash =
    (name : List ℕ) → IsTrue (place name).reports → (place name).there ≡ flash
