-- Lists of bytes, as a flash holds them.
use Rattle.std.specs.Prelude.{◌≡◌, ◌⊎◌, ℕ, ◌+◌, ◌%◌, ◌≤◌, ◌==◌, if◌then◌else◌, List, ◌++◌, length}
use Rattle.std.specs.Prelude.{take, drop, replicate, map, slice_index}
use Rattle.std.specs.List.{range_with_len}

-- n bytes of FF, as an erased flash reads
unfoldable pub blank : ℕ → List ℕ
blank n = replicate n 255

-- the n bytes from this place on
abbrev pub part : ℕ → ℕ → List ℕ → List ℕ
part at n bytes = take n (drop at bytes)

-- they are all FF
abbrev pub IsErased : ℕ → ℕ → List ℕ → Type 0
IsErased at n bytes = part at n bytes ≡ blank n

-- old with these bytes at this place
abbrev pub patch : List ℕ → ℕ → List ℕ → List ℕ
patch old at bytes = take at old ++ bytes ++ drop (at + length bytes) old

-- any bytes in the range of n from this place on, and all others as they were
pub record DiffersIn (at n : ℕ) (old new : List ℕ) : Type 0 where
  pub before : take at new ≡ take at old
  pub after : drop (at + n) new ≡ drop (at + n) old
  pub same_length : length new ≡ length old

-- torn bytes are these, over and over, or FF where there are none
abbrev pub torn_byte : List ℕ → ℕ → ℕ
torn_byte torn place = if length torn == 0 then 255 else slice_index torn (place % length torn)

unfoldable pub repeated : List ℕ → ℕ → List ℕ
repeated torn n = map (torn_byte torn) (range_with_len 0 n)

-- a part outside the range in which two lists differ is the same in both
abbrev pub PartsOutsideStay : Type 0
PartsOutsideStay = (at n : ℕ) (old new : List ℕ) → DiffersIn at n old new
    → (place len : ℕ) → (place + len ≤ at) ⊎ (at + n ≤ place)
    → part place len new ≡ part place len old
