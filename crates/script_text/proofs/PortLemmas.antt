-- The first statement at a port that isn't below a count, among statements one after another.
use Rattle.std.proofs.Common.{◌≡◌, ℕ, ◌+◌, ◌<◌, ◌≤◌, true, false, List, [], ◌∷◌, ◌++◌, length, drop}
use Rattle.std.proofs.Common.{get_or, Some, None, refl, sym, ap, ◌∙◌, inl, inr}
use Rattle.std.specs.List.{flat_map}
use Rattle.std.specs.Option.{option_map}
use Rattle.std.specs.Prelude.{find}
use Rattle.std.proofs.lemmas.Bool.{cases_Bool, cond-true, cond-false}
use Rattle.std.proofs.lemmas.List.{drop_all, drop_more}
use Rattle.card_core.specs.declared.script.Statement.{Statement}
use Rattle.script_text.specs.Ports.{is_beyond, line_beyond}

line_beyond-first : (count : ℕ) (statement : Statement) (more : List Statement) → is_beyond count statement ≡ true
    → line_beyond count (statement ∷ more) ≡ Some statement.line
line_beyond-first count statement more is =
    ap (option_map (λ (s : Statement). s.line)) (cond-true (is_beyond count statement) (Some statement) (find (is_beyond count) more) is)

line_beyond-later : (count : ℕ) (statement : Statement) (more : List Statement) → is_beyond count statement ≡ false
    → line_beyond count (statement ∷ more) ≡ line_beyond count more
line_beyond-later count statement more fails =
    ap (option_map (λ (s : Statement). s.line)) (cond-false (is_beyond count statement) (Some statement) (find (is_beyond count) more) fails)

some_none : (line : ℕ) → Some line ≡ None → ⊥
some_none line e = cc e

-- none among the first statements
line_beyond-none : (count : ℕ) (xs ys : List Statement) → line_beyond count xs ≡ None
    → line_beyond count (xs ++ ys) ≡ line_beyond count ys
line_beyond-none count [] ys none = refl
line_beyond-none count (x ∷ xs) ys none = elim (cases_Bool (is_beyond count x)) [
  | inl is ↦ absurd (some_none x.line (sym (line_beyond-first count x xs is) ∙ none))
  | inr fails ↦
      line_beyond-later count x (xs ++ ys) fails
      ∙ line_beyond-none count xs ys (sym (line_beyond-later count x xs fails) ∙ none)
]

-- one among the first statements
line_beyond-some : (count line : ℕ) (xs ys : List Statement) → line_beyond count xs ≡ Some line
    → line_beyond count (xs ++ ys) ≡ Some line
line_beyond-some count line [] ys some = absurd (some_none line (sym some))
line_beyond-some count line (x ∷ xs) ys some = elim (cases_Bool (is_beyond count x)) [
  | inl is ↦ line_beyond-first count x (xs ++ ys) is ∙ sym (line_beyond-first count x xs is) ∙ some
  | inr fails ↦
      line_beyond-later count x (xs ++ ys) fails
      ∙ line_beyond-some count line xs ys (sym (line_beyond-later count x xs fails) ∙ some)
]

-- ---- a loop over parts, each with its statements

-- there is none in the part at this place
pub beyond_next : {X : Type 0} (f : X → List Statement) (count : ℕ) (xs : List X) (i : ℕ) (x : X) → i < length xs → x ≡ get_or xs i x
    → line_beyond count (f x) ≡ None
    → line_beyond count (flat_map f (drop i xs)) ≡ line_beyond count (flat_map f (drop (i + 1) xs))
beyond_next f count xs i x within is none =
    let cut : drop i xs ≡ x ∷ drop (i + 1) xs = drop_more xs i x within ∙ ap (λ (y : _). y ∷ drop (i + 1) xs) (sym is) in
    ap (λ (rest : List _). line_beyond count (flat_map f rest)) cut
    ∙ line_beyond-none count (f x) (flat_map f (drop (i + 1) xs)) none

-- there is one
pub beyond_here : {X : Type 0} (f : X → List Statement) (count line : ℕ) (xs : List X) (i : ℕ) (x : X) → i < length xs → x ≡ get_or xs i x
    → line_beyond count (f x) ≡ Some line → line_beyond count (flat_map f (drop i xs)) ≡ Some line
beyond_here f count line xs i x within is some =
    let cut : drop i xs ≡ x ∷ drop (i + 1) xs = drop_more xs i x within ∙ ap (λ (y : _). y ∷ drop (i + 1) xs) (sym is) in
    ap (λ (rest : List _). line_beyond count (flat_map f rest)) cut
    ∙ line_beyond-some count line (f x) (flat_map f (drop (i + 1) xs)) some

-- no part is left
pub beyond_end : {X : Type 0} (f : X → List Statement) (count : ℕ) (xs : List X) (i : ℕ) → length xs ≤ i
    → line_beyond count (flat_map f (drop i xs)) ≡ None
beyond_end f count xs i over = ap (λ (rest : List _). line_beyond count (flat_map f rest)) (drop_all i xs over)
