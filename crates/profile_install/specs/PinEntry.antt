-- An entry of the PINs of a package: `80` the key, `81` the value, `82` the key of its PUK, `83`
-- the attributes, `84` the tries.
use Rattle.std.specs.Prelude.{ℕ, Bool, ◌+◌, ◌%◌, ◌==◌, ◌&&◌, ◌||◌, not, nat_le, if◌then◌else◌, List}
use Rattle.std.specs.Prelude.{length, find, Option, Some, None, unwrap_or, Result, Ok, Err}
use Rattle.std.specs.List.{list_any}
use Rattle.file_rows.specs.Path.{master, same_path}
use Rattle.file_rows.specs.declared.pin.PinRow.{PinRow}
use Rattle.file_rows.specs.declared.pin.Puk.{Puk}
use Rattle.profile_install.specs.ElementResult.{then_with}
use Rattle.profile_install.specs.Values.{eight_bytes, kept, one_byte, tries_in, tries_of}
use Rattle.profile_install.specs.declared.draft.Draft.{Draft}
use Rattle.profile_install.specs.declared.fault.ElementFault.{ElementFault}
use Rattle.profile_install.specs.declared.fault.ElementFault.TheVariants.{NoRoom, Malformed}
use Rattle.profile_install.specs.declared.fault.ElementFault.TheVariants.{BadParameter}
use Rattle.profile_install.specs.declared.pin_entry.PinFields.{PinFields}
use Rattle.profile_install.specs.declared.puk_entry.NamedPuk.{NamedPuk}
use Rattle.profile_install.specs.declared.values.Tries.{Tries}

abbrev pub no_pin_fields : PinFields
no_pin_fields = record { key = None; value = None; puk = None; attributes = None; tries = None }

-- the keys at home in the MF (ETSI TS 102 221, global key references and ADM1 to ADM5)
abbrev pub is_global_key : ℕ → Bool
is_global_key key =
    (nat_le 1 key && nat_le key 8) || ((nat_le 10 key && nat_le key 14) || (key == 17))

-- the keys at home in another directory (local key references)
abbrev pub is_local_key : ℕ → Bool
is_local_key key = nat_le 129 key && nat_le key 136

-- where a PIN with this key is at home: in the MF, or in the directory that was made last
abbrev pub home_of : List ℕ → ℕ → Option (List ℕ)
home_of last key =
    if is_global_key key then Some master
    else (if is_local_key key && not (length last == 0) then Some last else None)

-- whether a PIN has this key at this home
abbrev pub is_key_taken : List PinRow → List ℕ → ℕ → Bool
is_key_taken pins home key =
    list_any (λ (pin : PinRow). (pin.key == key) && same_path pin.home home) pins

abbrev pub key_at : List PinRow → ℕ → Option (List ℕ) → Result ℕ ElementFault
key_at pins key None = Err BadParameter
key_at pins key (Some home) = if is_key_taken pins home key then Err BadParameter else Ok key

-- the key of a PIN, which has a home where no earlier one has it
abbrev pub pin_key : List PinRow → List ℕ → List ℕ → Result ℕ ElementFault
pin_key pins last value = then_with (λ key. key_at pins key (home_of last key)) (one_byte value)

abbrev pub puk_found : Option NamedPuk → Result Puk ElementFault
puk_found None = Err BadParameter
puk_found (Some named) = Ok named.puk

-- the PUK that was given under this key
abbrev pub puk_named : List NamedPuk → List ℕ → Result Puk ElementFault
puk_named puks value = then_with
    (λ key. puk_found (find (λ (puk : NamedPuk). puk.key == key) puks)) (one_byte value)

-- the entry with a field more that it may leave out
abbrev pub with_pin_option : Draft → PinFields → ℕ → List ℕ → Result PinFields ElementFault
with_pin_option draft fields tag value =
    if tag == 0x82 then then_with (λ puk. Ok (record fields { puk = puk }))
    (kept fields.puk (puk_named draft.puks value))
    else (if tag == 0x83
    then then_with (λ attributes. Ok (record fields { attributes = attributes }))
    (kept fields.attributes (one_byte value))
    else (if tag == 0x84 then then_with (λ tries. Ok (record fields { tries = tries }))
    (kept fields.tries (tries_in value))
    else Err Malformed))

-- the entry with one field more
abbrev pub with_pin_field : Draft → PinFields → ℕ → List ℕ → Result PinFields ElementFault
with_pin_field draft fields tag value =
    if tag == 0x80 then then_with (λ key. Ok (record fields { key = key }))
    (kept fields.key (pin_key draft.pins draft.home value))
    else (if tag == 0x81 then then_with (λ its. Ok (record fields { value = its }))
    (kept fields.value (eight_bytes value))
    else with_pin_option draft fields tag value)

-- the PIN with this key and value: it is the next by number, enabled by bit 1 of its attributes
abbrev pub pin_with : Draft → PinFields → ℕ → List ℕ → Tries → PinRow
pin_with draft fields key value tries = record {
  number = length draft.pins + 1;
  home = unwrap_or (home_of draft.home key) master;
  key = key;
  value = value;
  max = tries.max;
  left = tries.left;
  enabled = unwrap_or fields.attributes 0x01 % 2 == 1;
  puk = fields.puk;
}

abbrev pub pin_of : Draft → PinFields → Option ℕ → Option (List ℕ) → Result PinRow ElementFault
pin_of draft fields None value = Err Malformed
pin_of draft fields (Some key) None = Err Malformed
pin_of draft fields (Some key) (Some value) =
    if nat_le 32 (length draft.pins) then Err NoRoom
    else Ok (pin_with draft fields key value (unwrap_or fields.tries (tries_of 0x33)))

-- the PIN at the end of its entry: enabled, with 3 tries, all left, where nothing else is given.
-- There are at most 32.
abbrev pub pin_told : Draft → PinFields → Result PinRow ElementFault
pin_told draft fields = pin_of draft fields fields.key fields.value
