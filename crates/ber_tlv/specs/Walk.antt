-- The BER-TLV data objects that stand one after another in a value.
use Rattle.std.specs.Prelude.{◌≡◌, ◌≢◌, ℕ, List, [], ◌∷◌, ◌++◌, Option, Some, None, Result, Ok, Err}
use Rattle.ber_tlv.specs.declared.read.Tlv.{Tlv}
use Rattle.ber_tlv.specs.declared.fault.TlvFault.{TlvFault}
use Rattle.ber_tlv.specs.Tlv.{BeginsWith, Refuses, shortest}

-- a TLV without where it lies in memory
pub record Object : Type 0 where
  pub tag : ℕ
  pub value : List ℕ

abbrev pub object_of : Tlv → Object
object_of tlv = record { tag = tlv.tag; value = tlv.value.now }

abbrev pub item_of : Result Tlv TlvFault → Result Object TlvFault
item_of (Ok tlv) = Ok (object_of tlv)
item_of (Err fault) = Err fault

-- The bytes begin with these objects, one after another, and then comes the rest.
abbrev pub LeadWith : List ℕ → List Object → List ℕ → Type 0
LeadWith bytes [] rest = bytes ≡ rest
LeadWith bytes (object ∷ objects) rest =
    (behind : List ℕ) × BeginsWith bytes object.tag object.value behind
    × LeadWith behind objects rest

-- the objects in their shortest spellings, one after another
abbrev pub spelled : List Object → List ℕ
spelled [] = []
spelled (object ∷ objects) = shortest object.tag object.value ++ spelled objects

-- The bytes are these objects, one after another up to the end, or up to a fault, which is the
-- last item.
abbrev pub Walks : List ℕ → List (Result Object TlvFault) → Type 0
Walks bytes [] = bytes ≡ []
Walks bytes (Ok object ∷ items) =
    (rest : List ℕ) × BeginsWith bytes object.tag object.value rest × Walks rest items
Walks bytes (Err fault ∷ items) = (bytes ≢ []) × Refuses bytes fault × (items ≡ [])

-- one call of `next`, from the bytes that are left to those that are left then
abbrev pub WalkStep : List ℕ → Option (Result Tlv TlvFault) → List ℕ → Type 0
WalkStep old None new = (old ≡ []) × (new ≡ [])
WalkStep old (Some (Ok tlv)) new = BeginsWith old tlv.tag tlv.value.now new
WalkStep old (Some (Err fault)) new = (old ≢ []) × Refuses old fault × (new ≡ [])
