-- The fields of records as bytes. Numbers are big endian.
use Rattle.std.specs.Prelude.{ℕ, Bool, List, [], ◌∷◌, ◌++◌, length, Option, Some, None}
use Rattle.std.specs.Prelude.{if◌then◌else◌}
use Rattle.std.specs.Int.{w16, w32, w64, to_be_bytes}
use Rattle.std.specs.List.{flat_map}

-- one field behind another
infixr 7 ◌&◌
abbrev pub ◌&◌ : List ℕ → List ℕ → List ℕ
one & others = one ++ others

abbrev pub byte : ℕ → List ℕ
byte n = n ∷ []

abbrev pub number2 : ℕ → List ℕ
number2 n = to_be_bytes w16 n

abbrev pub number4 : ℕ → List ℕ
number4 n = to_be_bytes w32 n

abbrev pub number8 : ℕ → List ℕ
number8 n = to_be_bytes w64 n

-- bytes as they are
abbrev pub plain : List ℕ → List ℕ
plain bytes = bytes

-- a byte string: its length, and its bytes
abbrev pub string : List ℕ → List ℕ
string bytes = number2 (length bytes) & bytes

-- a list: its count, and its items
abbrev pub list : {X : Type 0} → (X → List ℕ) → List X → List ℕ
list spelled items = number2 (length items) & flat_map spelled items

-- an option: 00, or 01 and the value
abbrev pub option : {X : Type 0} → (X → List ℕ) → Option X → List ℕ
option spelled None = byte 0
option spelled (Some x) = byte 1 & spelled x

-- a flag: 01 where it is set, else 00
abbrev pub flag_byte : Bool → ℕ
flag_byte set = if set then 1 else 0

abbrev pub flag : Bool → List ℕ
flag set = byte (flag_byte set)

-- a path: a count byte, and the identifiers
abbrev pub path : List ℕ → List ℕ
path ids = byte (length ids) & flat_map number2 ids
