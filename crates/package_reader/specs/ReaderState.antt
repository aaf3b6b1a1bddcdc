-- How far the parts of a package have come.
use Rattle.std.specs.Prelude.{◌≡◌, ℕ, ◌/◌, ◌%◌, ◌==◌, ◌-◌, Bool, false, List, [], ◌∷◌, ◌++◌, length}
use Rattle.std.specs.Prelude.{slice_get, Option, Some}

pub record ReaderState : Type 0 where
  -- how many bytes were handed out
  pub place : ℕ
  -- the bytes that came and weren't handed out
  pub unread : List ℕ
  -- how many bytes are left of the value of a primitive TLV
  pub value : ℕ
  -- the places where the open TLVs end, the innermost last
  pub ends : List ℕ
  -- the bytes of the last part
  pub shown : List ℕ

abbrev pub fresh_reader : ReaderState
fresh_reader = record { place = 0; unread = []; value = 0; ends = []; shown = [] }

-- one piece more
abbrev pub fed : ReaderState → List ℕ → ReaderState
fed state piece = record state { unread = state.unread ++ piece; shown = [] }

-- whether a TLV with this head is constructed: bit 6 of its first tag byte (ISO/IEC 8825-1)
abbrev pub opens : List ℕ → Bool
opens [] = false
opens (first ∷ rest) = first / 32 % 2 == 1

-- where the innermost open TLV ends
abbrev pub innermost : List ℕ → Option ℕ
innermost ends = slice_get ends (length ends - 1)

-- the innermost open TLV has been handed out to its end
abbrev pub IsAtClose : ReaderState → Type 0
IsAtClose state = innermost state.ends ≡ Some state.place
