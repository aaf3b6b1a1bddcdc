-- Notifications in the order of their numbers.
use Rattle.std.proofs.Common.{◌≡◌, ◌⊎◌, ◌↔◌, inl, inr, ⊎_elim, drop, ℕ, zero, suc, ◌+◌, ◌<◌, Bool}
use Rattle.std.proofs.Common.{true, false, not, nat_eq, cond, List, [], ◌∷◌, ◌++◌, length, filter}
use Rattle.std.proofs.Common.{get_or, refl, sym, ◌∙◌, ap, subst, arith, eq-eqb}
use Rattle.std.proofs.lemmas.Bool.{false≢true}
use Rattle.std.proofs.lemmas.List.{drop_more}
use Rattle.std.specs.List.{Any, AllByRecursion}
use Rattle.plain_lists.specs.EachTwo.{EachTwo}
use Rattle.notify_list.specs.Notes.{AreNumbered, IsPending, NoteList, with_note, without}
use Rattle.notify_list.specs.declared.note.Note.{Note}
use Rattle.notify_list.specs.declared.note.Operation.{Operation}

-- what each element has, in other words
pub each_weaker : {X : Type 0} (P Q : X → Type 0) → ((x : X) → P x → Q x) → (xs : List X) → AllByRecursion P xs → AllByRecursion Q xs
each_weaker P Q gives [] each = tt
each_weaker P Q gives (x ∷ xs) each = (gives x each.0, each_weaker P Q gives xs each.1)

module _ {X : Type 0} (P : X → Type 0) where
  pub each_push : (xs : List X) (x : X) → AllByRecursion P xs → P x → AllByRecursion P (xs ++ x ∷ [])
  each_push [] x each p = (p, tt)
  each_push (y ∷ xs) x each p = (each.0, each_push xs x each.1 p)

  -- what each element that a filter keeps has
  pub each_filter : (test : X → Bool) (xs : List X) → AllByRecursion P xs → AllByRecursion P (filter test xs)
  each_filter test [] each = tt
  each_filter test (x ∷ xs) each =
      let rest : List X = filter test xs in
      let kept : AllByRecursion P rest = each_filter test xs each.1 in
      let step : (b : Bool) → AllByRecursion P (cond b (x ∷ rest) rest)
      = λ b. elim b as (λ b. AllByRecursion P (cond b (x ∷ rest) rest)) [ true ↦ (each.0, kept) | false ↦ kept ]
      in step (test x)

  any_at : (xs : List X) → AllByRecursion (λ x. P x → ⊥) xs → (k : ℕ) (x : X) → k < length xs → get_or xs k x ≡ x → P x → ⊥
  any_at [] each k x within at p = omega (arith, within)
  any_at (y ∷ xs) each zero x within at p = each.0 (subst P (sym at) p)
  any_at (y ∷ xs) each (suc k) x within at p = any_at xs each.1 k x (omega (arith, within)) at p

  -- none is so where each isn't
  pub any_of_none : (xs : List X) → AllByRecursion (λ x. P x → ⊥) xs → Any P xs → ⊥
  any_of_none xs each any = any_at xs each any.0 any.1 any.2 any.3 any.4

module _ {X : Type 0} (P : X → Type 0) where
  pub any_later : (x : X) (xs : List X) → Any P xs → Any P (x ∷ xs)
  any_later x xs any = (suc any.0, any.1, omega (arith, any.2), any.3, any.4)

  cases_at : (x : X) (xs : List X) (k : ℕ) (y : X) → k < length (x ∷ xs) → get_or (x ∷ xs) k y ≡ y → P y → P x ⊎ Any P xs
  cases_at x xs zero y within at p = inl (subst P (sym at) p)
  cases_at x xs (suc k) y within at p = inr (k, y, omega (arith, within), at, p)

  -- some element is the first one or a later one
  pub any_cases : (x : X) (xs : List X) → Any P (x ∷ xs) → P x ⊎ Any P xs
  any_cases x xs any = cases_at x xs any.0 any.1 any.2 any.3 any.4

  -- what is said of some element is said of those that are left, while none so far passes
  pub any_rest : {G : Type 0} (xs : List X) (i : ℕ) (x : X) → i < length xs → x ≡ get_or xs i x
      → (Any P (drop i xs) ↔ G) → (P x → ⊥) → Any P (drop (i + 1) xs) ↔ G
  any_rest xs i x within at left fails =
      let here : drop i xs ≡ x ∷ drop (i + 1) xs = drop_more xs i x within ∙ ap (λ y. y ∷ drop (i + 1) xs) (sym at) in (
        λ rest. left.0 (subst (Any P) (sym here) (any_later x (drop (i + 1) xs) rest)),
        λ all. ⊎_elim (λ p. absurd (fails p)) (λ later. later) (any_cases x (drop (i + 1) xs) (subst (Any P) here (left.1 all))),
      )

-- what a filter's test says of each element that it keeps
pub each_passes : {X : Type 0} (Q : X → Type 0) (test : X → Bool) → ((x : X) → test x ≡ true → Q x) → (xs : List X) → AllByRecursion Q (filter test xs)
each_passes Q test gives [] = tt
each_passes Q test gives (x ∷ xs) =
    let rest : AllByRecursion Q (filter test xs) = each_passes Q test gives xs in
    let step : (b : Bool) → test x ≡ b → AllByRecursion Q (cond b (x ∷ filter test xs) (filter test xs))
    = λ b. elim b as (λ b. test x ≡ b → AllByRecursion Q (cond b (x ∷ filter test xs) (filter test xs))) [
      | true ↦ λ e. (gives x e, rest)
      | false ↦ λ e. rest
    ]
    in step (test x) refl

module _ {X : Type 0} (R : X → X → Type 0) where
  pub two_push : (xs : List X) (x : X) → EachTwo R xs → AllByRecursion (λ y. R y x) xs → EachTwo R (xs ++ x ∷ [])
  two_push [] x each last = (tt, tt)
  two_push (y ∷ xs) x each last = (each_push (R y) xs x each.0 last.0, two_push xs x each.1 last.1)

  pub two_filter : (test : X → Bool) (xs : List X) → EachTwo R xs → EachTwo R (filter test xs)
  two_filter test [] each = tt
  two_filter test (x ∷ xs) each =
      let rest : List X = filter test xs in
      let kept : EachTwo R rest = two_filter test xs each.1 in
      let step : (b : Bool) → EachTwo R (cond b (x ∷ rest) rest)
      = λ b. elim b as (λ b. EachTwo R (cond b (x ∷ rest) rest)) [ true ↦ (each_filter (R x) test xs each.0, kept) | false ↦ kept ]
      in step (test x)

pub numbered_more : (notes : NoteList) (operation : Operation) (iccid address : List ℕ) → AreNumbered notes → AreNumbered (with_note operation iccid address notes)
numbered_more notes operation iccid address are =
    let note : Note = record { number = notes.next; operation = operation; iccid = iccid; address = address } in
    record {
      ascending = two_push (λ (earlier later : Note). earlier.number < later.number) notes.list note are.ascending are.given;
      given = each_push (λ (n : Note). n.number < notes.next + 1) notes.list note
          (each_weaker (λ (n : Note). n.number < notes.next) (λ (n : Note). n.number < notes.next + 1) (λ n lt. omega (arith, lt)) notes.list are.given)
          (omega arith);
      next = omega arith;
    }

pub numbered_less : (notes : NoteList) (number : ℕ) → AreNumbered notes → AreNumbered (without number notes)
numbered_less notes number are = record {
  ascending = two_filter (λ (earlier later : Note). earlier.number < later.number) (λ (n : Note). not (nat_eq n.number number)) notes.list are.ascending;
  given = each_filter (λ (n : Note). n.number < notes.next) (λ (n : Note). not (nat_eq n.number number)) notes.list are.given;
  next = are.next;
}

differs : (number : ℕ) (note : Note) → not (nat_eq note.number number) ≡ true → note.number ≡ number → ⊥
differs number note kept same = false≢true (sym (ap not (eq-eqb note.number number same)) ∙ kept)

pub gone : (notes : NoteList) (number : ℕ) → IsPending number (without number notes) → ⊥
gone notes number = any_of_none (λ (n : Note). n.number ≡ number) (without number notes).list
    (each_passes (λ (n : Note). n.number ≡ number → ⊥) (λ (n : Note). not (nat_eq n.number number)) (differs number) notes.list)
