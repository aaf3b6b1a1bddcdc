-- A loop over a list, so far.
use Rattle.std.proofs.Common.{◌≡◌, ◌≢◌, ◌≤◌, ◌<◌, ◌+◌, ℕ, Bool, true, false, nat_eq, List, length}
use Rattle.std.proofs.Common.{Some, refl}
use Rattle.std.proofs.Common.{sym, ◌∙◌, subst, arith, eqb-true, length-set}
use Rattle.std.proofs.lemmas.Bool.{eqb-false}
use Rattle.std.proofs.lemmas.Option.{slice_get_within}
use Rattle.std.specs.Prelude.{slice_get, slice_set}
use Rattle.isdr_commands.proofs.MoveLemmas.{set_others}
use Rattle.record_codec.proofs.PortLemmas.{set_there}

-- the items below a place have changed so, and the others are as they were
pub record AreSoFar {X : Type 0} (P : ℕ → X → X → Type 0) (first now : List X) (count : ℕ)
    : Type 0 where
  pub same : length now ≡ length first
  pub done : (place : ℕ) (one its : X) → place < count → slice_get first place ≡ Some one
      → slice_get now place ≡ Some its → P place one its
  pub rest : (place : ℕ) → count ≤ place → slice_get now place ≡ slice_get first place

pub so_far_none : {X : Type 0} (P : ℕ → X → X → Type 0) (first : List X)
    → AreSoFar P first first 0
so_far_none P first = record {
  same = refl;
  done = λ place one its less there here. absurd (omega (arith, less));
  rest = λ place more. refl;
}

module _ {X : Type 0} (P : ℕ → X → X → Type 0) (first now : List X) (count : ℕ) (was put : X)
    (so : AreSoFar P first now count) (there : slice_get now count ≡ Some was)
    (changed : P count was put) where
  by_place : (place : ℕ) (one its : X) → place < count + 1 → slice_get first place ≡ Some one
      → slice_get (slice_set now count put) place ≡ Some its → (here : Bool)
      → nat_eq place count ≡ here → P place one its
  by_place place one its less before after true is =
      let same : place ≡ count = eqb-true place count is in
      let at_first : slice_get first count ≡ Some one =
      subst (λ (n : ℕ). slice_get first n ≡ Some one) same before in
      let at_now : slice_get (slice_set now count put) count ≡ Some its =
      subst (λ (n : ℕ). slice_get (slice_set now count put) n ≡ Some its) same after in
      let found : slice_get (slice_set now count put) count ≡ Some put =
      set_there now count put was there in
      let kept : slice_get now count ≡ slice_get first count = so.rest count (omega arith) in
      let one_is : was ≡ one = cc (there, kept, at_first) in
      let its_is : put ≡ its = cc (found, at_now) in
      subst (λ (n : ℕ). P n one its) (sym same)
      (subst (λ (x : X). P count x its) one_is (subst (λ (x : X). P count was x) its_is changed))
  by_place place one its less before after false is =
      let apart : place ≢ count = eqb-false place count is in
      let fewer : place < count = omega (arith, less, apart) in
      so.done place one its fewer before
      (sym (set_others now count place put (λ same. apart (sym same))) ∙ after)

  pub so_far_more : AreSoFar P first (slice_set now count put) (count + 1)
  so_far_more = record {
    same = length-set now count put ∙ so.same;
    done = λ place one its less before after.
        by_place place one its less before after (nat_eq place count) refl;
    rest = λ place more. set_others now count place put (omega (arith, more))
        ∙ so.rest place (omega (arith, more));
  }

pub so_far_all : {X : Type 0} (P : ℕ → X → X → Type 0) (first now : List X) (count : ℕ)
    → AreSoFar P first now count → length first ≤ count → (place : ℕ) (one its : X)
    → slice_get first place ≡ Some one → slice_get now place ≡ Some its → P place one its
so_far_all P first now count so all place one its before after =
    let less : place < length first = slice_get_within first place one before in
    so.done place one its (omega (arith, less, all)) before after
