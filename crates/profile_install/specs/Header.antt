-- The header of a package: `80` its major version, `81` its minor one, `83` the ICCID.
use Rattle.std.specs.Prelude.{ℕ, Bool, true, false, ◌==◌, ◌&&◌, ◌||◌, if◌then◌else◌, List, length}
use Rattle.std.specs.Prelude.{Result, Ok, Err}
use Rattle.std.specs.Str.{bytes_eq}
use Rattle.profile_install.specs.ElementResult.{then_with}
use Rattle.profile_install.specs.Values.{one_byte}
use Rattle.profile_install.specs.declared.fault.ElementFault.{ElementFault}
use Rattle.profile_install.specs.declared.fault.ElementFault.TheVariants.{Malformed, BadParameter}
use Rattle.profile_install.specs.declared.fault.ElementFault.TheVariants.{WrongVersion}
use Rattle.profile_install.specs.declared.header.HeaderFields.{HeaderFields}

abbrev pub no_header_fields : HeaderFields
no_header_fields = record { major = false; minor = false; iccid = false }

abbrev pub major_told : HeaderFields → ℕ → Result HeaderFields ElementFault
major_told fields version =
    if (version == 2) || (version == 3) then Ok (record fields { major = true })
    else Err WrongVersion

abbrev pub with_major : HeaderFields → List ℕ → Result HeaderFields ElementFault
with_major fields value =
    if fields.major then Err Malformed else then_with (major_told fields) (one_byte value)

abbrev pub with_minor : HeaderFields → List ℕ → Result HeaderFields ElementFault
with_minor fields value =
    if fields.minor then Err Malformed
    else then_with (λ _. Ok (record fields { minor = true })) (one_byte value)

-- the ICCID has 10 bytes and is that of the profile's metadata
abbrev pub with_iccid : List ℕ → HeaderFields → List ℕ → Result HeaderFields ElementFault
with_iccid iccid fields value =
    if fields.iccid then Err Malformed
    else (if length value == 10
    then (if bytes_eq value iccid then Ok (record fields { iccid = true }) else Err BadParameter)
    else Err Malformed)

-- the header with one field more; other fields are passed over
abbrev pub with_header_field : List ℕ → HeaderFields → ℕ → List ℕ
    → Result HeaderFields ElementFault
with_header_field iccid fields tag value =
    if tag == 0x80 then with_major fields value
    else (if tag == 0x81 then with_minor fields value
    else (if tag == 0x83 then with_iccid iccid fields value else Ok fields))

-- whether the header has all that it needs
abbrev pub is_header_whole : HeaderFields → Bool
is_header_whole fields = fields.major && (fields.minor && fields.iccid)
