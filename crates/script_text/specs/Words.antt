-- The words of a line of a script.
use Rattle.std.specs.Prelude.{◌≡◌, ℕ, ◌==◌, ◌⊎◌, Bool, true, false, List, [], ◌∷◌, ◌++◌}
use Rattle.std.specs.Prelude.{codes, filter, Ok}
use Rattle.std.specs.List.{slice_split}
use Rattle.hex.specs.Hex.{decode_of}

abbrev pub space : ℕ
space = 32

-- a part of a line between spaces is a word unless it is empty
abbrev pub is_word : List ℕ → Bool
is_word [] = false
is_word (b ∷ bs) = true

abbrev pub words : List ℕ → List (List ℕ)
words line = filter is_word (slice_split (λ b. b == space) line)

-- a line without a word, and a comment, whose first word begins with `#`
abbrev pub IsPassedOver : List (List ℕ) → Type 0
IsPassedOver its =
    (its ≡ [])
    ⊎ ((comment : List ℕ) × (more : List (List ℕ)) × (its ≡ (codes "#" ++ comment) ∷ more))

-- two hex digits for each byte, in either case
abbrev pub SpellsHex : List ℕ → List ℕ → Type 0
SpellsHex digits bytes = decode_of digits ≡ Ok bytes
