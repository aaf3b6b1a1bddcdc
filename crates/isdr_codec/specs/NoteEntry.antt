-- A notification in the reply to ListNotification (GSMA SGP.22, NotificationMetadata).
use Rattle.std.specs.Prelude.{ℕ, ◌/◌, ◌%◌, nat_lt, if◌then◌else◌, List, [], ◌∷◌, ◌++◌}
use Rattle.ber_tlv.specs.Tlv.{shortest}
use Rattle.isdr_codec.specs.ProfileEntry.{is_asked}
use Rattle.notify_list.specs.declared.note.Note.{Note}
use Rattle.notify_list.specs.declared.note.Operation.{Operation}
use Rattle.notify_list.specs.declared.note.Operation.TheVariants.{Install, Enable, Disable, Delete}
use Rattle.record_codec.specs.Noted.{operation_bit}

-- ITU-T X.690, integer: a number of 32 bits that isn't negative, in as few bytes as leave the first
-- bit 0
abbrev pub integer_bytes : ℕ → List ℕ
integer_bytes n =
    if nat_lt n 0x80 then n ∷ []
    else (if nat_lt n 0x8000 then n / 256 ∷ n % 256 ∷ []
    else (if nat_lt n 0x800000 then n / 65536 ∷ n / 256 % 256 ∷ n % 256 ∷ []
    else (if nat_lt n 0x80000000
    then n / 16777216 ∷ n / 65536 % 256 ∷ n / 256 % 256 ∷ n % 256 ∷ []
    else 0x00 ∷ n / 16777216 ∷ n / 65536 % 256 ∷ n / 256 % 256 ∷ n % 256 ∷ [])))

-- the bit string of an operation: 07 80, 06 40, 05 20 or 04 10
abbrev pub operation_string : Operation → List ℕ
operation_string Install = 0x07 ∷ 0x80 ∷ []
operation_string Enable = 0x06 ∷ 0x40 ∷ []
operation_string Disable = 0x05 ∷ 0x20 ∷ []
operation_string Delete = 0x04 ∷ 0x10 ∷ []

-- the number, the operation, the address and the ICCID
abbrev pub note_fields : Note → List ℕ
note_fields note =
    shortest 0x80 (integer_bytes note.number)
    ++ shortest 0x81 (operation_string note.operation)
    ++ shortest 0x0C note.address
    ++ shortest 0x5A note.iccid

-- BF2F with them, where the operation is among these
abbrev pub note_entry : ℕ → Note → List ℕ
note_entry operations note =
    if is_asked operations (operation_bit note.operation) then shortest 0xBF2F (note_fields note)
    else []
