-- What the values of the fields say, where they are well formed (ETSI TS 102 221).
use Rattle.std.specs.Prelude.{ℕ, ◌+◌, ◌*◌, ◌/◌, ◌%◌, Bool, true, List, [], ◌∷◌, take, Option, Some}
use Rattle.std.specs.Prelude.{None, is_some, if◌then◌else◌, ◌==◌, ◌&&◌, ◌||◌, nat_le}
use Rattle.file_rows.specs.declared.head.Life.{Life}
use Rattle.file_rows.specs.declared.head.Life.TheVariants.{Active, Deactivated, Terminated}
use Rattle.fcp_codec.specs.FileForm.{form_of}
use Rattle.fcp_codec.specs.RuleRef.{rule_of}
use Rattle.fcp_codec.specs.declared.tags.TheConstants.{SIZE, DESCRIPTOR, IDENTIFIER, SFI, LIFE}
use Rattle.fcp_codec.specs.declared.tags.TheConstants.{RULE}

abbrev pub descriptor_of : List ℕ → Option (List ℕ)
descriptor_of value = if is_some (form_of value) then Some value else None

abbrev pub id_of : List ℕ → Option ℕ
id_of [] = None
id_of (a ∷ []) = None
id_of (a ∷ b ∷ []) = Some (a * 256 + b)
id_of (a ∷ b ∷ c ∷ more) = None

-- one to three bytes
abbrev pub size_of : List ℕ → Option ℕ
size_of [] = None
size_of (a ∷ []) = Some a
size_of (a ∷ b ∷ []) = Some (a * 256 + b)
size_of (a ∷ b ∷ c ∷ []) = Some ((a * 256 + b) * 256 + c)
size_of (a ∷ b ∷ c ∷ d ∷ more) = None

-- none, or a byte that is the SFI times 8
abbrev pub sfi_of : List ℕ → Option ℕ
sfi_of [] = Some 0
sfi_of (a ∷ []) = if (a % 8 == 0) && nat_le (a / 8) 30 then Some (a / 8) else None
sfi_of (a ∷ b ∷ more) = None

-- the first 17 bytes
abbrev pub name_of : List ℕ → Option (List ℕ)
name_of value = Some (take 17 value)

-- activated, deactivated or terminated; creation and initialisation count as activated
abbrev pub life_of : List ℕ → Option Life
life_of [] = None
life_of (a ∷ []) =
    if (a == 5) || ((a == 1) || (a == 3)) then Some Active
    else (if a == 4 then Some Deactivated
    else (if a == 12 then Some Terminated
    else None))
life_of (a ∷ b ∷ more) = None

-- whether a value is one that the field may have; what stands in the others isn't looked at
abbrev pub is_well_formed : ℕ → List ℕ → Bool
is_well_formed tag value =
    if tag == DESCRIPTOR then is_some (form_of value)
    else (if tag == IDENTIFIER then is_some (id_of value)
    else (if tag == SIZE then is_some (size_of value)
    else (if tag == SFI then is_some (sfi_of value)
    else (if tag == LIFE then is_some (life_of value)
    else (if tag == RULE then is_some (rule_of value)
    else true)))))
