-- An entry of the PUKs of a package: `80` the key, `81` the value, `84` the tries.
use Rattle.std.specs.Prelude.{ℕ, Bool, ◌==◌, if◌then◌else◌, List, Option, Some, None, unwrap_or}
use Rattle.std.specs.Prelude.{Result, Ok, Err}
use Rattle.std.specs.List.{list_any}
use Rattle.profile_install.specs.ElementResult.{then_with}
use Rattle.profile_install.specs.Values.{eight_bytes, kept, one_byte, tries_in, tries_of}
use Rattle.profile_install.specs.declared.fault.ElementFault.{ElementFault}
use Rattle.profile_install.specs.declared.fault.ElementFault.TheVariants.{Malformed, BadParameter}
use Rattle.profile_install.specs.declared.puk_entry.NamedPuk.{NamedPuk}
use Rattle.profile_install.specs.declared.puk_entry.PukFields.{PukFields}
use Rattle.profile_install.specs.declared.values.Tries.{Tries}

abbrev pub no_puk_fields : PukFields
no_puk_fields = record { key = None; value = None; tries = None }

-- whether a PUK has this key
abbrev pub is_puk_key : List NamedPuk → ℕ → Bool
is_puk_key puks key = list_any (λ (puk : NamedPuk). puk.key == key) puks

abbrev pub free_key : List NamedPuk → ℕ → Result ℕ ElementFault
free_key puks key = if is_puk_key puks key then Err BadParameter else Ok key

-- the key of a PUK, which no earlier one has
abbrev pub puk_key : List NamedPuk → List ℕ → Result ℕ ElementFault
puk_key puks value = then_with (free_key puks) (one_byte value)

-- the entry with one field more
abbrev pub with_puk_field : List NamedPuk → PukFields → ℕ → List ℕ → Result PukFields ElementFault
with_puk_field puks fields tag value =
    if tag == 0x80 then then_with (λ key. Ok (record fields { key = key }))
    (kept fields.key (puk_key puks value))
    else (if tag == 0x81 then then_with (λ its. Ok (record fields { value = its }))
    (kept fields.value (eight_bytes value))
    else (if tag == 0x84 then then_with (λ tries. Ok (record fields { tries = tries }))
    (kept fields.tries (tries_in value))
    else Err Malformed))

abbrev pub puk_of : Option ℕ → Option (List ℕ) → Tries → Result NamedPuk ElementFault
puk_of None value tries = Err Malformed
puk_of (Some key) None tries = Err Malformed
puk_of (Some key) (Some value) tries = Ok (record {
  key = key;
  puk = record { value = value; max = tries.max; left = tries.left };
})

-- the PUK at the end of its entry: 10 tries, all left, where none are given
abbrev pub puk_told : PukFields → Result NamedPuk ElementFault
puk_told fields = puk_of fields.key fields.value (unwrap_or fields.tries (tries_of 0xAA))
