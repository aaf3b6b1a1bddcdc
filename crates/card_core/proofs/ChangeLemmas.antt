-- A run brought in the order of phases, turns and ports by neighbours that change places.
use Rattle.std.proofs.Common.{◌≡◌, ◌≢◌, ◌⊎◌, ◌≤◌, ℕ, Bool, true, false, cond, nat_eq, nat_lt}
use Rattle.std.proofs.Common.{List, [], ◌∷◌, ◌++◌, refl, sym, ◌∙◌, ap}
use Rattle.std.proofs.Common.{arith, inl, inr, append-nil, eqb-true}
use Rattle.std.proofs.lemmas.Bool.{eqb-false, le-ltb, ne_eqb}
use Rattle.std.specs.List.{AllByRecursion}
use Rattle.plain_lists.specs.EachTwo.{EachTwo}
use Rattle.card_core.proofs.FollowLemmas.{Follows, HasOneLine, IsTold, its_maker, number_of}
use Rattle.card_core.proofs.RankLemmas.{Rank}
use Rattle.card_core.proofs.ShownLemmas.{IsFit, IsGood, MaySwap, Runs, Shown, good_after}
use Rattle.card_core.proofs.ShownLemmas.{runs_swapped}
use Rattle.card_core.proofs.SortLemmas.{IsLess, before_less, in_order, is_before, order_each, put}
use Rattle.card_core.proofs.StatementLemmas.{its_port}
use Rattle.card_core.specs.Merge.{phase_at}
use Rattle.card_core.specs.Stretch.{lines_at}
use Rattle.card_core.specs.World.{WorldState}
use Rattle.card_core.specs.declared.entry.Entry.{Entry}
use Rattle.card_core.specs.declared.entry.Maker.{Maker}
use Rattle.card_core.specs.declared.event.Event.{Event}

abbrev pub item_phase : List (List Event) → Shown → ℕ
item_phase phases item = phase_at phases (its_port item.event) (number_of item)

-- by phase and turn, what isn't shared before what is, and by port
abbrev pub item_ranks : List (List Event) → List (Rank Shown)
item_ranks phases =
    record { of = item_phase phases; below = 0 }
    ∷ record { of = λ item. item.turn; below = 0 }
    ∷ record { of = λ item. item.next; below = 0 }
    ∷ record { of = λ item. its_port item.event; below = 0 } ∷ []

pub turn_most : (count : ℕ) (item : Shown) → IsTold count item → item.turn ≤ item.next
turn_most count item told = elim told.shared [
  | inl its ↦ let same : item.next ≡ item.turn = its.0 in omega (arith, same)
  | inr more ↦ omega (arith, more)
]

module _ (phases : List (List Event)) where
  abbrev pub ranks : List (Rank Shown)
  ranks = item_ranks phases

  -- an item that has to stand before one that it follows may change places with it
  pub may_swap : (count : ℕ) (one other : Shown) → IsTold count one → IsTold count other
      → Follows one other → item_phase phases one ≤ item_phase phases other
      → is_before ranks other one ≡ true → MaySwap one other × (other.turn ≡ one.turn)
  may_swap count one other told its follows most before =
      by (before_less ranks other one before)
    where
      later : one.next ≤ other.turn
      later = follows.turn

      first_most : one.turn ≤ one.next
      first_most = turn_most count one told

      second_most : other.turn ≤ other.next
      second_most = turn_most count other its

      by : IsLess ranks other one → MaySwap one other × (other.turn ≡ one.turn)
      by (inl less) = absurd (omega (arith, less, most))
      by (inr (same, inl less)) = absurd (omega (arith, less, later, first_most))
      by (inr (same, inr (turn, inl less))) =
          absurd (omega (arith, turn, less, later, second_most))
      by (inr (same, inr (turn, inr (next, inl less)))) = (
        record {
          first = omega (arith, turn, next, later, first_most, second_most);
          second = omega (arith, turn, next, later, first_most, second_most);
          apart = λ equal. omega (arith, less, equal);
        },
        turn,
      )
      by (inr (same, inr (turn, inr (next, inr none)))) = absurd none.1

  abbrev pub Swaps : Shown → Shown → Type 0
  Swaps one other = is_before ranks other one ≡ true → MaySwap one other

  module _ (count : ℕ) where
    put_runs : (item : Shown) (items : List Shown) (state after : WorldState)
        → IsGood count state → IsFit count item → AllByRecursion (IsFit count) items
        → AllByRecursion (Swaps item) items → Runs state (item ∷ items) after
        → Runs state (put ranks item items) after
    put_runs item [] state after good fit fits swaps runs = runs
    put_runs item (other ∷ items) state after good fit fits swaps runs =
        by (is_before ranks other item) refl (λ its. put_runs item items (swapped its).0.state after
        (good_after count state other (swapped its).0 good fits.0 (swapped its).1) fit fits.1
        swaps.1 (swapped its).3)
      where
        swapped : is_before ranks other item ≡ true → Runs state (other ∷ item ∷ items) after
        swapped is =
            runs_swapped count state item other items after good fit fits.0 (swaps.0 is) runs

        by : (before : Bool) → is_before ranks other item ≡ before
            → ((is : is_before ranks other item ≡ true)
            → Runs (swapped is).0.state (put ranks item items) after)
            → Runs state (cond before (other ∷ put ranks item items) (item ∷ other ∷ items)) after
        by true is rest = ((swapped is).0, (swapped is).1, (swapped is).2, rest is)
        by false is rest = runs

    -- the same statements in that order
    pub order_runs : (items : List Shown) (state after : WorldState) → IsGood count state
        → AllByRecursion (IsFit count) items → EachTwo Swaps items → Runs state items after
        → Runs state (in_order ranks items) after
    order_runs [] state after good fits swaps runs = runs
    order_runs (item ∷ items) state after good fits swaps runs =
        put_runs item (in_order ranks items) state after good fits.0
        (order_each ranks (IsFit count) items fits.1)
        (order_each ranks (Swaps item) items swaps.0) (
          runs.0,
          runs.1,
          runs.2,
          order_runs items runs.0.state after
              (good_after count state item runs.0 good fits.0 runs.1) fits.1 swaps.1 runs.3,
        )

-- two lists of which one is empty, in either order
pub either_order : {X : Type 0} (xs ys : List X) → (xs ≡ []) ⊎ (ys ≡ []) → xs ++ ys ≡ ys ++ xs
either_order {X} xs ys (inl none) =
    ap (λ (its : List X). its ++ ys) none ∙ sym (append-nil ys)
    ∙ ap (λ (its : List X). ys ++ its) (sym none)
either_order {X} xs ys (inr none) =
    ap (λ (its : List X). xs ++ its) none ∙ append-nil xs
    ∙ ap (λ (its : List X). its ++ xs) (sym none)

-- the statement of an item, where it was shared
abbrev pub shared_of : Shown → List Maker
shared_of item = cond (nat_lt item.turn item.next) (its_maker item ∷ []) []

unshared_none : (item : Shown) → item.next ≡ item.turn → shared_of item ≡ []
unshared_none item same =
    ap (marked (its_maker item ∷ []))
    (le-ltb item.turn item.next (omega (arith, same)))
  where
    marked : List Maker → Bool → List Maker
    marked makers its = cond its makers []

-- the lines of an item about a port
abbrev pub item_lines : ℕ → Shown → List Entry
item_lines port item = lines_at port item.entries

no_lines : (port : ℕ) (item : Shown) → HasOneLine item → its_port item.event ≢ port
    → item_lines port item ≡ []
no_lines port item one apart =
    ap (lines_at port) one.are
    ∙ ap (line_where (record {
      turn = item.turn;
      port = its_port item.event;
      line = one.line;
    } ∷ [])) (ne_eqb (its_port item.event) port apart)
  where
    line_where : List Entry → Bool → List Entry
    line_where entries here = cond here entries []

pub one_line : (count : ℕ) (item : Shown) → IsTold count item → item.next ≡ item.turn
    → HasOneLine item
one_line count item told same = elim told.shared [
  | inl its ↦ its.1
  | inr more ↦ absurd (omega (arith, more, same))
]

-- one of two ports is another than this one
pub one_apart : (port one other : ℕ) → one ≢ other → (one ≢ port) ⊎ (other ≢ port)
one_apart port one other apart = by (nat_eq one port) refl
  where
    by : (here : Bool) → nat_eq one port ≡ here → (one ≢ port) ⊎ (other ≢ port)
    by true is = inr (λ same. apart (eqb-true one port is ∙ sym same))
    by false is = inl (eqb-false one port is)

module _ (one other : Shown) (may : MaySwap one other) where
  pub shared_either : shared_of one ++ shared_of other ≡ shared_of other ++ shared_of one
  shared_either =
      either_order (shared_of one) (shared_of other) (inl (unshared_none one may.first))

  pub lines_either : (count port : ℕ) → IsTold count one → IsTold count other
      → item_lines port one ++ item_lines port other
      ≡ item_lines port other ++ item_lines port one
  lines_either count port told its =
      either_order (item_lines port one) (item_lines port other)
      (elim (one_apart port (its_port one.event) (its_port other.event) may.apart) [
        | inl away ↦ inl (no_lines port one (one_line count one told may.first) away)
        | inr away ↦ inr (no_lines port other (one_line count other its may.second) away)
      ])
