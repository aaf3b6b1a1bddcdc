-- The records of a file, and the walk over them (ETSI TS 102 221, record handling). Records are
-- counted from 1; a record pointer of 0 is none.
use Rattle.std.specs.Prelude.{ℕ, ◌≡◌, ◌⊎◌, ◌≤◌, ◌+◌, ◌-◌, ◌*◌, ◌/◌, Bool, ◌==◌, ◌||◌, nat_lt}
use Rattle.std.specs.Prelude.{if◌then◌else◌, List, length, take, drop, Option, Some, None}
use Rattle.file_rows.specs.FileHead.{HasRecord, is_cyclic}
use Rattle.file_rows.specs.declared.head.FileHead.{FileHead}
use Rattle.file_rows.specs.declared.row.FileRow.{FileRow}
use Rattle.uicc_data.specs.declared.walk.RecordName.{RecordName}
use Rattle.uicc_data.specs.declared.walk.RecordName.TheVariants.{Next, Previous, Absolute, Current}

-- how many records a file has
abbrev pub record_count : FileHead → ℕ
record_count head = head.size / head.record_len

-- the record of that number
abbrev pub record_bytes : FileRow → ℕ → List ℕ
record_bytes row number =
    take row.head.record_len (drop ((number - 1) * row.head.record_len) row.body)

-- the record after the pointer, and without one the first; the first follows the last where the
-- file goes round
abbrev pub next_record : Bool → ℕ → ℕ → Option ℕ
next_record goes_round count pointer =
    if nat_lt pointer count then Some (pointer + 1)
    else if goes_round then Some 1
    else None

-- the record before the pointer, and without one the last; the last comes before the first where
-- the file goes round
abbrev pub previous_record : Bool → ℕ → ℕ → Option ℕ
previous_record goes_round count pointer =
    if nat_lt 1 pointer then Some (pointer - 1)
    else if goes_round || (pointer == 0) then Some count
    else None

-- the record of that number, where there is one
abbrev pub record_numbered : ℕ → ℕ → Option ℕ
record_numbered count number =
    if (number == 0) || nat_lt count number then None else Some number

-- the number of the record that a command names, of so many
abbrev pub number_named : Bool → ℕ → ℕ → RecordName → Option ℕ
number_named goes_round count pointer Next = next_record goes_round count pointer
number_named goes_round count pointer Previous = previous_record goes_round count pointer
number_named goes_round count pointer (Absolute number) = record_numbered count number
number_named goes_round count pointer Current = record_numbered count pointer

-- the same in a file; a cyclic one goes round
abbrev pub record_in : FileHead → ℕ → RecordName → Option ℕ
record_in head pointer name = number_named (is_cyclic head.kind) (record_count head) pointer name

-- where the pointer is after a command on the record of that number: next and previous move it
-- there
abbrev pub pointer_after : ℕ → RecordName → ℕ → ℕ
pointer_after pointer Next number = number
pointer_after pointer Previous number = number
pointer_after pointer (Absolute named) number = pointer
pointer_after pointer Current number = pointer

-- there is no record pointer, or it is at a record of the file
abbrev pub IsPointerIn : FileHead → ℕ → Type 0
IsPointerIn head pointer = (pointer ≡ 0) ⊎ HasRecord head pointer

-- a file has 1 to 254 records of at least one byte, and they are its body
pub record HoldsWholeRecords (row : FileRow) : Type 0 where
  pub some : 1 ≤ row.head.record_len
  pub first : 1 ≤ record_count row.head
  pub last : record_count row.head ≤ 254
  pub size : record_count row.head * row.head.record_len ≡ row.head.size
  pub body : length row.body ≡ row.head.size
