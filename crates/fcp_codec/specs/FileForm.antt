-- The file descriptor of ETSI TS 102 221: a descriptor byte, a data coding byte, and for records
-- their length.
use Rattle.std.specs.Prelude.{ℕ, ◌+◌, ◌*◌, List, [], ◌∷◌, Option, Some, None, if◌then◌else◌, ◌==◌}
use Rattle.std.specs.Prelude.{◌&&◌}
use Rattle.fcp_codec.specs.declared.fcp.FileForm.{FileForm}
use Rattle.fcp_codec.specs.declared.fcp.FileForm.TheVariants.{Directory, Transparent, Linear}
use Rattle.fcp_codec.specs.declared.fcp.FileForm.TheVariants.{Cyclic}

-- a file without records
abbrev pub plain_form : ℕ → ℕ → Option FileForm
plain_form byte coding =
    if (byte == 0x41) && (coding == 0x21) then Some Transparent
    else (if (byte == 0x78) && (coding == 0x21) then Some Directory
    else None)

-- a file of records of this length
abbrev pub record_form : ℕ → ℕ → ℕ → Option FileForm
record_form byte coding record_len =
    if (byte == 0x42) && (coding == 0x21) then Some (Linear record_len)
    else (if (byte == 0x46) && (coding == 0x21) then Some (Cyclic record_len)
    else None)

-- What a descriptor says. A fifth byte, the number of records, is passed over.
abbrev pub form_of : List ℕ → Option FileForm
form_of [] = None
form_of (a ∷ []) = None
form_of (a ∷ b ∷ []) = plain_form a b
form_of (a ∷ b ∷ c ∷ []) = None
form_of (a ∷ b ∷ c ∷ d ∷ []) = record_form a b (c * 256 + d)
form_of (a ∷ b ∷ c ∷ d ∷ e ∷ []) = record_form a b (c * 256 + d)
form_of (a ∷ b ∷ c ∷ d ∷ e ∷ f ∷ more) = None
