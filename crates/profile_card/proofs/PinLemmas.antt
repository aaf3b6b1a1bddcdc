use Rattle.std.proofs.Common.{◌≡◌, ◌<◌, ℕ, zero, suc, List, [], ◌∷◌, ◌++◌, map, take, drop, length}
use Rattle.std.proofs.Common.{get_or, set, refl, ap, arith}

-- a list of which the first elements are turned
abbrev pub turned_to : {X : Type 0} → (X → X) → ℕ → List X → List X
turned_to turn count xs = map turn (take count xs) ++ drop count xs

-- the next element is as it was
pub get_or-turned_to : {X : Type 0} (turn : X → X) (count : ℕ) (xs : List X) (d : X) → get_or (turned_to turn count xs) count d ≡ get_or xs count d
get_or-turned_to turn zero xs d = refl
get_or-turned_to turn (suc count) [] d = refl
get_or-turned_to turn (suc count) (x ∷ xs) d = get_or-turned_to turn count xs d

-- it is turned next
pub turned_to-next : {X : Type 0} (turn : X → X) (count : ℕ) (xs : List X) (d : X) → count < length xs → set (turned_to turn count xs) count (turn (get_or xs count d)) ≡ turned_to turn (suc count) xs
turned_to-next turn count [] d within = absurd (omega (arith, within))
turned_to-next turn zero (x ∷ xs) d within = refl
turned_to-next turn (suc count) (x ∷ xs) d within = ap (λ (zs : List _). turn x ∷ zs) (turned_to-next turn count xs d (omega (arith, within)))
