use Rattle.std.proofs.Common.{◌≡◌, ◌<◌, ℕ, zero, suc, List, [], ◌∷◌, ◌++◌, map, take, drop, length}
use Rattle.std.proofs.Common.{get_or, set, refl, ap, arith}

-- a list of which so many elements at the beginning are mapped
abbrev pub mapped_to : {X : Type 0} → (X → X) → ℕ → List X → List X
mapped_to f count xs = map f (take count xs) ++ drop count xs

-- the next element is as it was
pub get_or-mapped_to : {X : Type 0} (f : X → X) (count : ℕ) (xs : List X) (d : X) → get_or (mapped_to f count xs) count d ≡ get_or xs count d
get_or-mapped_to f zero xs d = refl
get_or-mapped_to f (suc count) [] d = refl
get_or-mapped_to f (suc count) (x ∷ xs) d = get_or-mapped_to f count xs d

-- it is mapped next
pub mapped_to-next : {X : Type 0} (f : X → X) (count : ℕ) (xs : List X) (d : X) → count < length xs
    → set (mapped_to f count xs) count (f (get_or xs count d)) ≡ mapped_to f (suc count) xs
mapped_to-next f count [] d within = absurd (omega (arith, within))
mapped_to-next f zero (x ∷ xs) d within = refl
mapped_to-next f (suc count) (x ∷ xs) d within =
    ap (λ (zs : List _). f x ∷ zs) (mapped_to-next f count xs d (omega (arith, within)))

pub length-mapped_to : {X : Type 0} (f : X → X) (count : ℕ) (xs : List X) → length (mapped_to f count xs) ≡ length xs
length-mapped_to f zero xs = refl
length-mapped_to f (suc count) [] = refl
length-mapped_to f (suc count) (x ∷ xs) = ap suc (length-mapped_to f count xs)

-- all are
pub mapped_to-all : {X : Type 0} (f : X → X) (xs : List X) → mapped_to f (length xs) xs ≡ map f xs
mapped_to-all f [] = refl
mapped_to-all f (x ∷ xs) = ap (λ (zs : List _). f x ∷ zs) (mapped_to-all f xs)
