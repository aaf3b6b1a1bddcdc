-- Rows: a gate, four bytes of length, and a body. A row is open where its gate is 00, and the rows
-- of a bank end at the first gate that isn't.
use Rattle.std.specs.Prelude.{◌≡◌, ◌≢◌, ◌↔◌, ℕ, ◌+◌, ◌^◌, ◌<◌, ◌≤◌, ⊤, List, [], ◌∷◌, ◌++◌, length}
use Rattle.std.specs.Prelude.{take, drop}
use Rattle.std.specs.Int.{to_be_bytes, w32}
use Rattle.flash_pages.specs.declared.row.RowAt.{RowAt}
use Rattle.flash_pages.specs.declared.row.RowAt.TheVariants.{Open, End, Overrun}

-- what stands behind the gate
abbrev pub behind_gate : List ℕ → List ℕ
behind_gate body = to_be_bytes w32 (length body) ++ body

-- an open row
abbrev pub row_of : List ℕ → List ℕ
row_of body = 0 ∷ behind_gate body

-- open rows with these bodies, one after another
abbrev pub open_rows : List (List ℕ) → List ℕ
open_rows [] = []
open_rows (body ∷ bodies) = row_of body ++ open_rows bodies

-- no open row stands first
abbrev pub IsClosed : List ℕ → Type 0
IsClosed [] = ⊤
IsClosed (gate ∷ rest) = gate ≢ 0

-- these are the bodies of the open rows
abbrev pub HasRows : List ℕ → List (List ℕ) → Type 0
HasRows bytes bodies = (rest : List ℕ) × (bytes ≡ open_rows bodies ++ rest) × IsClosed rest

-- a bank has no two lists of open rows
abbrev pub HasOneListOfRows : Type 0
HasOneListOfRows =
    (bytes : List ℕ) (first second : List (List ℕ)) → length bytes < 2 ^ 32 → HasRows bytes first
    → HasRows bytes second → first ≡ second

-- an open row with this body stands first
abbrev pub BeginsWithRow : List ℕ → List ℕ → Type 0
BeginsWithRow bytes body = (rest : List ℕ) × (bytes ≡ row_of body ++ rest)

-- what stands first in what is left of a bank from place `at` on
abbrev pub RowIs : ℕ → List ℕ → RowAt → Type 0
RowIs at bytes End = IsClosed bytes
RowIs at bytes (Open place len next) =
    (body : List ℕ) × BeginsWithRow bytes body × (length body ≡ len) × (place ≡ at + 5) ×
    (next ≡ place + len)
RowIs at bytes Overrun =
    (IsClosed bytes → ⊥) × ((body : List ℕ) → length body < 2 ^ 32 → BeginsWithRow bytes body → ⊥)

-- an open row ends no later than the bank
abbrev pub LiesBefore : ℕ → ℕ → RowAt → Type 0
LiesBefore at end (Open body len next) = (body ≡ at + 5) × (next ≡ body + len) × (next ≤ end)
LiesBefore at end End = ⊤
LiesBefore at end Overrun = ⊤

-- the rows up to this place are open and have these bodies
pub record RowsUpTo (bytes : List ℕ) (bodies : List (List ℕ)) (place : ℕ) : Type 0 where
  pub end : place ≡ length (open_rows bodies)
  pub rows : take place bytes ≡ open_rows bodies

-- what is read one row after another from place `at` on: open rows with these bodies, and then an
-- end
abbrev pub ReadsAs : ℕ → List ℕ → List (List ℕ) → Type 0
ReadsAs at bytes [] = RowIs at bytes End
ReadsAs at bytes (body ∷ bodies) =
    RowIs at bytes (Open (at + 5) (length body) (at + 5 + length body))
    × (take (length body) (drop 5 bytes) ≡ body)
    × ReadsAs (at + 5 + length body) (drop (5 + length body) bytes) bodies

-- rows read one after another up to an end are the open rows, from whatever place they are counted
abbrev pub RowsAreThoseRead : Type 0
RowsAreThoseRead =
    (at : ℕ) (bytes : List ℕ) (bodies : List (List ℕ))
    → HasRows bytes bodies ↔ ReadsAs at bytes bodies

-- where an open row is met that doesn't lie in the bank, the bank has no list of open rows
abbrev pub OverrunHasNoRows : Type 0
OverrunHasNoRows =
    (at place : ℕ) (bytes : List ℕ) (before bodies : List (List ℕ)) → length bytes < 2 ^ 32
    → RowsUpTo bytes before place → RowIs at (drop place bytes) Overrun → HasRows bytes bodies → ⊥
