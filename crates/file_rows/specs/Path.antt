use Rattle.std.specs.Prelude.{ℕ, ◌+◌, ◌-◌, Bool, ◌≡◌, ◌==◌, ◌&&◌, if◌then◌else◌, List, [], ◌∷◌}
use Rattle.std.specs.Prelude.{◌++◌, length, take, slice_get, nat_eq, Option, Some, None, unwrap_or}
use Rattle.std.specs.List.{starts_with}
use Rattle.std.specs.Str.{bytes_eq}

-- the MF's path
abbrev pub master : List ℕ
master = []

-- a file in the directory
abbrev pub IsIn : List ℕ → List ℕ → Type 0
IsIn directory file = (id : ℕ) × (file ≡ directory ++ id ∷ [])

-- whether two paths name one file
abbrev pub same_path : List ℕ → List ℕ → Bool
same_path = bytes_eq

-- whether a path names the file on top or one below it
abbrev pub stands_below : List ℕ → List ℕ → Bool
stands_below top path = starts_with nat_eq path top

-- whether a file stands in the directory: below it, with one identifier more
abbrev pub is_in : List ℕ → List ℕ → Bool
is_in directory file = stands_below directory file && (length file == length directory + 1)

-- the last identifier of a path, and 3F00 for the MF (ETSI TS 102 221, file identifiers)
abbrev pub own_id : List ℕ → ℕ
own_id path = unwrap_or (slice_get path (length path - 1)) 0x3F00

-- the directory that holds the file at a path; nothing holds the MF
abbrev pub parent_of : List ℕ → Option (List ℕ)
parent_of path = if length path == 0 then None else Some (take (length path - 1) path)
