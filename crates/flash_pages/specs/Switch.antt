-- The switch row: the first block of a store. It names the live bank by how many of its bytes were
-- programmed to 00.
use Rattle.std.specs.Prelude.{◌≡◌, ◌≢◌, ℕ, ◌+◌, ◌-◌, ◌%◌, ◌<◌, ◌≤◌, ◌==◌, List, length, count_by}
use Rattle.std.specs.Prelude.{slice_index, Option, Some, None}
use Rattle.flash_pages.specs.Bytes.{DiffersIn}

-- the number of 00 bytes modulo 2
abbrev pub live_of : List ℕ → ℕ
live_of row = count_by (λ byte. byte == 0) row % 2

-- from this place on all bytes are FF, and the byte before it isn't
pub record IsUsedTo (row : List ℕ) (used : ℕ) : Type 0 where
  pub rest : (place : ℕ) → used ≤ place → place < length row → slice_index row place ≡ 255
  pub last : 0 < used → slice_index row (used - 1) ≢ 255

-- the first FF byte after the last byte that isn't FF
abbrev pub IsNextByte : List ℕ → Option ℕ → Type 0
IsNextByte row (Some next) = (next < length row) × IsUsedTo row next
IsNextByte row None = IsUsedTo row (length row)

-- a switch row has one next byte at most
abbrev pub HasOneNextByte : Type 0
HasOneNextByte =
    (row : List ℕ) (first second : Option ℕ) → IsNextByte row first → IsNextByte row second
    → first ≡ second

-- whatever comes to stand at the next byte of a switch row, and nothing else: the other bank is
-- live exactly where it is 00
pub record SwitchesTo (row image : List ℕ) (next : ℕ) : Type 0 where
  pub flips : slice_index image next ≡ 0 → live_of image ≡ 1 - live_of row
  pub stays : slice_index image next ≢ 0 → live_of image ≡ live_of row
  -- FF leaves it the next byte, all else makes that the byte behind it, if there is one
  pub unused : slice_index image next ≡ 255 → IsNextByte image (Some next)
  pub used : slice_index image next ≢ 255 → next + 1 < length row
      → IsNextByte image (Some (next + 1))
  pub used_up : slice_index image next ≢ 255 → next + 1 ≡ length row → IsNextByte image None

abbrev pub NextByteSwitches : Type 0
NextByteSwitches =
    (row image : List ℕ) (next : ℕ) → IsNextByte row (Some next) → DiffersIn next 1 row image
    → SwitchesTo row image next
