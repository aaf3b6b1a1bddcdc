-- The PIN status template DO of ETSI TS 102 221: which PINs are enabled, and their key references.
use Rattle.std.specs.Prelude.{ℕ, ◌+◌, ◌/◌, ◌^◌, Bool, List, [], ◌∷◌, length, map, take, find}
use Rattle.std.specs.Prelude.{Option, option_map, if◌then◌else◌, ◌==◌, ◌&&◌, ◌||◌}
use Rattle.std.specs.List.{filter_map}
use Rattle.std.specs.Int.{w32, to_be_bytes, div_ceil}
use Rattle.ber_tlv.specs.Walk.{Object, spelled}
use Rattle.file_rows.specs.Path.{master, same_path}
use Rattle.file_rows.specs.declared.pin.PinRow.{PinRow}
use Rattle.fcp_codec.specs.declared.pin_status.PinStatus.{PinStatus}
use Rattle.fcp_codec.specs.declared.pin_status.TheConstants.{KEYS}
use Rattle.fcp_codec.specs.declared.tags.TheConstants.{PIN_STATUS, ENABLED, KEY}

-- whether a PIN counts in a directory: the PINs at home in the MF count everywhere, the others at
-- home
abbrev pub counts_in : List ℕ → PinRow → Bool
counts_in path pin = same_path pin.home master || same_path pin.home path

-- the status of the PIN that counts there under this key, if there is one
abbrev pub status_of : List ℕ → List PinRow → ℕ → Option PinStatus
status_of path pins key =
    option_map (λ (pin : PinRow). record { key = key; enabled = pin.enabled })
    (find (λ pin. (pin.key == key) && counts_in path pin) pins)

-- the statuses of the PINs that count in a directory in the order of their keys, the global ones
-- first
abbrev pub statuses_of : List ℕ → List PinRow → List PinStatus
statuses_of path pins = filter_map (status_of path pins) KEYS

-- the keys of those PINs
abbrev pub keys_of : List ℕ → List PinRow → List ℕ
keys_of path pins = map (λ (status : PinStatus). status.key) (statuses_of path pins)

-- one bit for each status, from this one on downwards, set where it is enabled
abbrev pub bits_of : ℕ → List PinStatus → ℕ
bits_of bit [] = 0
bits_of bit (status ∷ statuses) = (if status.enabled then bit else 0) + bits_of (bit / 2) statuses

-- those bits from b8 of the first byte on, in as many bytes as they need
abbrev pub status_bytes : List PinStatus → List ℕ
status_bytes statuses = take (div_ceil (length statuses) 8)
    (to_be_bytes w32 (bits_of (2 ^ 31) statuses))

abbrev pub key_object : PinStatus → Object
key_object status = record { tag = KEY; value = status.key ∷ [] }

-- the template's objects: the bits, and then each key
abbrev pub template_of : List PinStatus → List Object
template_of statuses = record { tag = ENABLED; value = status_bytes statuses }
    ∷ map key_object statuses

-- the field, which is left out where there is no PIN
abbrev pub status_objects : List PinStatus → List Object
status_objects [] = []
status_objects (status
    ∷ statuses) = record { tag = PIN_STATUS; value = spelled (template_of (status ∷ statuses)) }
    ∷ []
