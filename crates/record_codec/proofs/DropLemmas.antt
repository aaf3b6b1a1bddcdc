-- Contents that go, one after the other.
use Rattle.std.proofs.Common.{◌≡◌, ℕ, zero, suc, ◌+◌, ◌<◌, Bool, true, false, cond, List, [], ◌∷◌}
use Rattle.std.proofs.Common.{◌++◌, length, take, drop, get_or, min, refl, sym, ◌∙◌, ap, arith}
use Rattle.std.proofs.lemmas.List.{append-nil, append_assoc, drop_at, length-append, length-take}
use Rattle.std.proofs.lemmas.List.{take_at, take_more}
use Rattle.record_codec.specs.Gone.{contents_without, is_among}
use Rattle.record_codec.specs.declared.profile.ProfileHead.{ProfileHead}
use Rattle.record_codec.proofs.HeldLemmas.{without_more}

-- the next element of a list
pub split_item : {X : Type 0} (xs : List X) (i : ℕ) → i < length xs → (x : X) × (drop i xs ≡ x ∷ drop (i + 1) xs) × (take (i + 1) xs ≡ take i xs ++ x ∷ [])
split_item [] i within = absurd (omega (arith, within))
split_item (x ∷ xs) zero within = (x, refl, refl)
split_item (x ∷ xs) (suc i) within =
    let rest = split_item xs i (omega (arith, within)) in
    let up : suc i + 1 ≡ suc (i + 1) = omega arith in
    (rest.0, rw up rest.1, rw up (ap (λ (ys : List _). x ∷ ys) rest.2))

-- an element taken out behind the front, or passed
passed : {X : Type 0} (goes : Bool) (front rest now : List X) (x : X) (place : ℕ) → now ≡ front ++ x ∷ rest → place ≡ length front
    → (cond goes (take place now ++ drop (place + 1) now) now ≡ (front ++ cond goes [] (x ∷ [])) ++ rest)
    × (cond goes place (place + 1) ≡ length (front ++ cond goes [] (x ∷ [])))
passed true front rest now x place is at =
    let before : take place now ≡ front = ap (take place) is ∙ take_at front (x ∷ rest) place (sym at) in
    let one : front ++ x ∷ rest ≡ (front ++ x ∷ []) ++ rest = sym (append_assoc front (x ∷ []) rest) in
    let behind : drop (place + 1) now ≡ rest = ap (drop (place + 1)) (is ∙ one)
    ∙ drop_at (front ++ x ∷ []) rest (place + 1) (omega (arith, at, length-append front (x ∷ [])))
    in
    (rw (before, behind, append-nil front) refl, rw (append-nil front) at)
passed false front rest now x place is at =
    (is ∙ sym (append_assoc front (x ∷ []) rest), omega (arith, at, length-append front (x ∷ [])))

module _ {X : Type 0} (numbers : List ℕ) (profiles : List ProfileHead) (contents : List X) (i : ℕ) (head : ProfileHead) (within : i < length profiles)
    (pairs : length contents ≡ length profiles) (at : head ≡ get_or profiles i head) where
  abbrev front : ℕ → List X
  front j = contents_without numbers (take j profiles) (take j contents)

  -- one profile more has gone by
  pub pass_one : (now : List X) (place : ℕ) → now ≡ front i ++ drop i contents → place ≡ length (front i)
      → (cond (is_among numbers head.number) (take place now ++ drop (place + 1) now) now ≡ front (i + 1) ++ drop (i + 1) contents)
      × (cond (is_among numbers head.number) place (place + 1) ≡ length (front (i + 1)))
  pass_one now place so_far is_place =
      let goes : Bool = is_among numbers head.number in
      let item = split_item contents i (omega (arith, within, pairs)) in
      let x = item.0 in
      let rest = drop (i + 1) contents in
      let heads : take (i + 1) profiles ≡ take i profiles ++ head ∷ [] = take_more profiles i head within ∙ ap (λ (h : ProfileHead). take i profiles ++ h ∷ []) (sym at) in
      let next : front (i + 1) ≡ front i ++ cond goes [] (x ∷ []) =
      ap (λ (hs : List ProfileHead). contents_without numbers hs (take (i + 1) contents)) heads
      ∙ ap (λ (cs : List X). contents_without numbers (take i profiles ++ head ∷ []) cs) item.2
      ∙ without_more numbers (take i profiles) (take i contents) head x (length-take i contents ∙ ap (λ (n : ℕ). min i n) pairs ∙ sym (length-take i profiles))
      in
      let one = passed goes (front i) rest now x place (so_far ∙ ap (λ (cs : List X). front i ++ cs) item.1) is_place in
      (one.0 ∙ sym (ap (λ (f : List X). f ++ rest) next), one.1 ∙ sym (ap length next))
