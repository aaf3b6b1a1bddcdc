-- Lists cut at the elements that pass a test, when one more element follows.
use Rattle.std.proofs.Common.{◌≡◌, ◌<◌, Bool, true, false, List, [], ◌∷◌, ◌++◌, length, refl, sym}
use Rattle.std.proofs.Common.{ap, ◌∙◌, arith, inl, inr, length-append}
use Rattle.std.specs.List.{slice_split, onto_first}
use Rattle.std.proofs.lemmas.Bool.{cases_Bool}
use Rattle.std.proofs.lemmas.List.Splits.{slice_split-cons_yes, slice_split-cons_no}
use Rattle.std.proofs.lemmas.List.Splits.{length-slice_split}

-- there is always a part
some_part : {X : Type 0} (p : X → Bool) (xs : List X) → 0 < length (slice_split p xs)
some_part p xs = omega (arith, length-slice_split p xs)

onto_first-append : {X : Type 0} (x : X) (parts more : List (List X)) → 0 < length parts
    → onto_first x (parts ++ more) ≡ onto_first x parts ++ more
onto_first-append x [] more some = absurd (omega arith)
onto_first-append x (part ∷ parts) more some = refl

-- an element that passes begins a part
pub slice_split_push_yes : {X : Type 0} (p : X → Bool) (xs : List X) (x : X) → p x ≡ true
    → slice_split p (xs ++ x ∷ []) ≡ slice_split p xs ++ [] ∷ []
slice_split_push_yes p [] x passes = slice_split-cons_yes p x [] passes
slice_split_push_yes p (y ∷ ys) x passes =
    let rest = slice_split_push_yes p ys x passes in
    elim (cases_Bool (p y)) [
      | inl ends ↦
          slice_split-cons_yes p y (ys ++ x ∷ []) ends
          ∙ ap (λ (parts : List (List _)). [] ∷ parts) rest
          ∙ ap (λ (parts : List (List _)). parts ++ [] ∷ []) (sym (slice_split-cons_yes p y ys ends))
      | inr stays ↦
          slice_split-cons_no p y (ys ++ x ∷ []) stays
          ∙ ap (onto_first y) rest
          ∙ onto_first-append y (slice_split p ys) ([] ∷ []) (some_part p ys)
          ∙ ap (λ (parts : List (List _)). parts ++ [] ∷ []) (sym (slice_split-cons_no p y ys stays))
    ]

-- the last part with one more element
abbrev onto_last : {X : Type 0} → List (List X) → X → List (List X)
onto_last [] x = (x ∷ []) ∷ []
onto_last (part ∷ []) x = (part ++ x ∷ []) ∷ []
onto_last (part ∷ next ∷ parts) x = part ∷ onto_last (next ∷ parts) x

onto_last-cons : {X : Type 0} (part : List X) (parts : List (List X)) (x : X) → 0 < length parts
    → onto_last (part ∷ parts) x ≡ part ∷ onto_last parts x
onto_last-cons part [] x some = absurd (omega arith)
onto_last-cons part (next ∷ parts) x some = refl

onto_last-onto_first : {X : Type 0} (y : X) (parts : List (List X)) (x : X)
    → onto_first y (onto_last parts x) ≡ onto_last (onto_first y parts) x
onto_last-onto_first y [] x = refl
onto_last-onto_first y (part ∷ []) x = refl
onto_last-onto_first y (part ∷ next ∷ parts) x = refl

onto_last_is : {X : Type 0} (ended : List (List X)) (part : List X) (x : X)
    → onto_last (ended ++ part ∷ []) x ≡ ended ++ (part ++ x ∷ []) ∷ []
onto_last_is [] part x = refl
onto_last_is (first ∷ ended) part x =
    let long = length-append ended (part ∷ []) in
    onto_last-cons first (ended ++ part ∷ []) x (omega arith)
    ∙ ap (λ (parts : List (List _)). first ∷ parts) (onto_last_is ended part x)

slice_split-onto_last : {X : Type 0} (p : X → Bool) (xs : List X) (x : X) → p x ≡ false
    → slice_split p (xs ++ x ∷ []) ≡ onto_last (slice_split p xs) x
slice_split-onto_last p [] x fails = slice_split-cons_no p x [] fails
slice_split-onto_last p (y ∷ ys) x fails =
    let rest = slice_split-onto_last p ys x fails in
    elim (cases_Bool (p y)) [
      | inl ends ↦
          slice_split-cons_yes p y (ys ++ x ∷ []) ends
          ∙ ap (λ (parts : List (List _)). [] ∷ parts) rest
          ∙ sym (onto_last-cons [] (slice_split p ys) x (some_part p ys))
          ∙ ap (λ (parts : List (List _)). onto_last parts x) (sym (slice_split-cons_yes p y ys ends))
      | inr stays ↦
          slice_split-cons_no p y (ys ++ x ∷ []) stays
          ∙ ap (onto_first y) rest
          ∙ onto_last-onto_first y (slice_split p ys) x
          ∙ ap (λ (parts : List (List _)). onto_last parts x) (sym (slice_split-cons_no p y ys stays))
    ]

-- an element that doesn't pass goes on the last part
pub slice_split_push_no : {X : Type 0} (p : X → Bool) (xs : List X) (x : X) (ended : List (List X)) (part : List X)
    → p x ≡ false → slice_split p xs ≡ ended ++ part ∷ []
    → slice_split p (xs ++ x ∷ []) ≡ ended ++ (part ++ x ∷ []) ∷ []
slice_split_push_no p xs x ended part fails cut =
    slice_split-onto_last p xs x fails ∙ ap (λ (parts : List (List _)). onto_last parts x) cut ∙ onto_last_is ended part x
