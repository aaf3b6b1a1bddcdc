-- The pieces that come and the parts that are handed out, in any order.
use Rattle.std.specs.Prelude.{◌≡◌, ℕ, List, [], ◌∷◌, ◌++◌, ⊤}
use Rattle.package_reader.specs.ReaderState.{ReaderState, fed}
use Rattle.package_reader.specs.Part.{HandsOut}
use Rattle.package_reader.specs.declared.part.Part.{Part}
use Rattle.package_reader.specs.declared.part.Part.TheVariants.{Head, Bytes, Close, More, Bad}

-- a piece comes, or a part is handed out with its bytes
pub data Turn : Type 0 where
  Comes : List ℕ → Turn
  Goes : Part → List ℕ → Turn

-- the pieces that came, joined
abbrev pub pieces_of : List Turn → List ℕ
pieces_of [] = []
pieces_of (Comes piece ∷ turns) = piece ++ pieces_of turns
pieces_of (Goes part bytes ∷ turns) = pieces_of turns

-- the bytes of the parts, joined
abbrev pub part_bytes_of : List Turn → List ℕ
part_bytes_of [] = []
part_bytes_of (Comes piece ∷ turns) = part_bytes_of turns
part_bytes_of (Goes part bytes ∷ turns) = bytes ++ part_bytes_of turns

-- a reader goes from one state to another by these turns
abbrev pub GoesBy : ReaderState → List Turn → ReaderState → Type 0
GoesBy old [] new = old ≡ new
GoesBy old (Comes piece ∷ turns) new = GoesBy (fed old piece) turns new
GoesBy old (Goes part bytes ∷ turns) new =
    (next : ReaderState) × HandsOut old part next × (bytes ≡ next.shown)
    × GoesBy next turns new

-- a part that doesn't depend on how far the bytes have come
abbrev pub IsWhole : Part → Type 0
IsWhole (Head tag n place) = ⊤
IsWhole (Bytes count) = ⊥
IsWhole Close = ⊤
IsWhole More = ⊥
IsWhole (Bad place) = ⊤
