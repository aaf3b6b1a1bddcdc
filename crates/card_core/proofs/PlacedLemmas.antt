-- The lines of a run in order stand in the order of the merge.
use Rattle.std.proofs.Common.{◌≡◌, ◌<◌, ◌≤◌, ◌+◌, ℕ, Bool, true, false, cond, nat_eq, nat_lt, List}
use Rattle.std.proofs.Common.{[], ◌∷◌, flat_map, length, refl, sym, ◌∙◌, ap, subst, arith, inl, inr}
use Rattle.std.proofs.lemmas.Bool.{le-ltb, lt-ltb}
use Rattle.std.specs.List.{AllByRecursion}
use Rattle.plain_lists.specs.EachTwo.{EachTwo}
use Rattle.card_core.proofs.ChangeLemmas.{item_phase, item_ranks, shared_of, turn_most}
use Rattle.card_core.proofs.FollowLemmas.{Follows, IsItemLine, IsTold, its_maker}
use Rattle.card_core.proofs.MergedLemmas.{line_ranks, marked}
use Rattle.card_core.proofs.RankLemmas.{AtMost, IsWithin, each_given, each_two_given, each_two_with}
use Rattle.card_core.proofs.RankLemmas.{each_weaker, sieve, sieved}
use Rattle.card_core.proofs.ShownLemmas.{Shown}
use Rattle.card_core.proofs.LineLemmas.{own_first, own_rank}
use Rattle.card_core.proofs.StatementLemmas.{its_port}
use Rattle.card_core.specs.Merge.{is_made_by_one_of, line_phase, maker_of, phase_at, place_in_turn}
use Rattle.card_core.specs.declared.entry.Entry.{Entry}
use Rattle.card_core.specs.declared.entry.Maker.{Maker}
use Rattle.card_core.specs.declared.event.Event.{Event}

-- the place in its turn of a line of an item
abbrev pub place_by : Shown → Entry → ℕ
place_by item entry =
    cond (nat_lt item.turn item.next) (own_rank (nat_eq (its_port item.event) entry.port)) 0

place_most : (shared here : Bool) → cond shared (own_rank here) 0 ≤ 2
place_most true true = omega arith
place_most true false = omega arith
place_most false here = omega arith

some_place : (here : Bool) → 0 < own_rank here
some_place true = omega arith
some_place false = omega arith

module _ (phases : List (List Event)) (count : ℕ) (shared : List Maker) where
  -- a line of an item, by the numbers of its place
  pub record IsPlaced (item : Shown) (entry : Entry) : Type 0 where
    pub phase : line_phase phases entry ≡ item_phase phases item
    pub turn : entry.turn ≡ item.turn
    pub place : place_in_turn shared entry ≡ place_by item entry
    pub within : entry.port < count
    pub own : item.next ≡ item.turn → entry.port ≡ its_port item.event

  ranked : (here : Bool) → cond here 1 2 ≡ own_rank here
  ranked true = refl
  ranked false = refl

  place_is : (item : Shown) (entry : Entry) → maker_of entry ≡ its_maker item
      → is_made_by_one_of shared (its_maker item) ≡ nat_lt item.turn item.next
      → place_in_turn shared entry ≡ place_by item entry
  place_is item entry maker mark =
      ap placed maker
      ∙ ap (λ (here : Bool). cond here (at (nat_eq (its_port item.event) entry.port)) none) mark
      ∙ ap (λ (n : ℕ). cond (nat_lt item.turn item.next) n none)
      (ranked (nat_eq (its_port item.event) entry.port))
    where
      none : ℕ
      none = 0

      at : Bool → ℕ
      at here = cond here 1 2

      placed : Maker → ℕ
      placed its = cond (is_made_by_one_of shared its) (cond (nat_eq its.port entry.port) 1 2) 0

  own_port : (item : Shown) → IsTold count item → item.next ≡ item.turn
      → AllByRecursion (λ entry. entry.port ≡ its_port item.event) item.entries
  own_port item told same = elim told.shared [
    | inl its ↦ subst (AllByRecursion (λ entry. entry.port ≡ its_port item.event))
        (sym its.1.are) (refl, tt)
    | inr more ↦ absurd (omega (arith, more, same))
  ]

  -- the lines of an item
  placed : (item : Shown) → IsTold count item
      → is_made_by_one_of shared (its_maker item) ≡ nat_lt item.turn item.next
      → AllByRecursion (IsPlaced item) item.entries
  placed item told mark =
      by item.entries told.lines (elim told.shared [
        | inl its ↦ each_weaker (λ entry. entry.port ≡ its_port item.event)
            (λ entry. item.next ≡ item.turn → entry.port ≡ its_port item.event)
            (λ entry is same. is) item.entries (own_port item told its.0)
        | inr more ↦ never item.entries more
      ])
    where
      never : (entries : List Entry) → item.next ≡ item.turn + 1
          → AllByRecursion (λ entry. item.next ≡ item.turn
          → entry.port ≡ its_port item.event) entries
      never [] more = tt
      never (entry ∷ entries) more =
          ((λ same. absurd (omega (arith, more, same))), never entries more)

      by : (entries : List Entry) → AllByRecursion (IsItemLine count item) entries
          → AllByRecursion (λ entry. item.next ≡ item.turn
          → entry.port ≡ its_port item.event) entries
          → AllByRecursion (IsPlaced item) entries
      by [] lines own = tt
      by (entry ∷ entries) lines own = (
        record {
          phase = ap (λ (its : Maker). phase_at phases its.port its.number) lines.0.maker;
          turn = lines.0.turn;
          place = place_is item entry lines.0.maker mark;
          within = lines.0.within;
          own = own.0;
        },
        by entries lines.1 own.1,
      )

  abbrev pub InOrder : Entry → Entry → Type 0
  InOrder = AtMost (line_ranks phases shared count)

  -- the lines of one item are in order
  module _ (item : Shown) (told : IsTold count item) where
    shared_lines : item.next ≡ item.turn + 1 → (one other : Entry) → IsPlaced item one
        → IsPlaced item other → AtMost (own_first (its_port item.event)) one other
        → InOrder one other
    shared_lines more one other at there order =
        inr (at.phase ∙ sym there.phase, inr (at.turn ∙ sym there.turn, by order))
      where
        mark : nat_lt item.turn item.next ≡ true
        mark = lt-ltb item.turn item.next (omega (arith, more))

        first : place_in_turn shared one
            ≡ own_rank (nat_eq (its_port item.event) one.port)
        first = at.place ∙ ap (λ (here : Bool). cond here
            (own_rank (nat_eq (its_port item.event) one.port)) (own_none)) mark
          where
            own_none : ℕ
            own_none = 0

        second : place_in_turn shared other
            ≡ own_rank (nat_eq (its_port item.event) other.port)
        second = there.place ∙ ap (λ (here : Bool). cond here
            (own_rank (nat_eq (its_port item.event) other.port)) (own_none)) mark
          where
            own_none : ℕ
            own_none = 0

        by : AtMost (own_first (its_port item.event)) one other
            → AtMost (record { of = place_in_turn shared; below = 3 }
            ∷ record { of = λ entry. entry.port; below = count } ∷ []) one other
        by (inl less) = inl (omega (arith, first, second, less))
        by (inr (same, inl less)) =
            inr (omega (arith, first, second, same), inl less)
        by (inr (same, inr (alike, rest))) =
            inr (omega (arith, first, second, same), inr (alike, tt))

    lines_in_order : AllByRecursion (IsPlaced item) item.entries → EachTwo InOrder item.entries
    lines_in_order places = elim told.shared [
      | inl its ↦ subst (EachTwo InOrder) (sym its.1.are) (tt, tt)
      | inr more ↦ each_two_with (IsPlaced item) (AtMost (own_first (its_port item.event))) InOrder
          (shared_lines more) item.entries places told.order
    ]

  -- and so are those of two
  record IsBefore (one other : Shown) : Type 0 where
    order : AtMost (item_ranks phases) one other
    follows : Follows one other
    first : one.turn ≤ one.next
    second : other.turn ≤ other.next

  unplaced : (item : Shown) (entry : Entry) → IsPlaced item entry → item.next ≡ item.turn
      → place_in_turn shared entry ≡ 0
  unplaced item entry at same =
      at.place ∙ ap (λ (here : Bool). cond here
      (own_rank (nat_eq (its_port item.event) entry.port)) none)
      (le-ltb item.turn item.next (omega (arith, same)))
    where
      none : ℕ
      none = 0

  is_placed : (item : Shown) (entry : Entry) → IsPlaced item entry → item.turn < item.next
      → 0 < place_in_turn shared entry
  is_placed item entry at less =
      let is : place_in_turn shared entry
      ≡ own_rank (nat_eq (its_port item.event) entry.port) =
      at.place ∙ ap (λ (here : Bool). cond here
      (own_rank (nat_eq (its_port item.event) entry.port)) none)
      (lt-ltb item.turn item.next less) in
      let some : 0 < own_rank (nat_eq (its_port item.event) entry.port) =
      some_place (nat_eq (its_port item.event) entry.port) in
      omega (arith, is, some)
    where
      none : ℕ
      none = 0

  module _ (one other : Shown) (line its : Entry) (before : IsBefore one other)
      (at : IsPlaced one line) (there : IsPlaced other its) where
    later : one.next ≤ other.turn
    later = before.follows.turn

    two_in_order : InOrder line its
    two_in_order = by before.order
      where
        phase_one : line_phase phases line ≡ item_phase phases one
        phase_one = at.phase

        phase_other : line_phase phases its ≡ item_phase phases other
        phase_other = there.phase

        turn_one : line.turn ≡ one.turn
        turn_one = at.turn

        turn_other : its.turn ≡ other.turn
        turn_other = there.turn

        first_most : one.turn ≤ one.next
        first_most = before.first

        second_most : other.turn ≤ other.next
        second_most = before.second

        by : AtMost (item_ranks phases) one other → InOrder line its
        by (inl less) = inl (omega (arith, less, phase_one, phase_other))
        by (inr (same, inl less)) =
            inr (
              omega (arith, same, phase_one, phase_other),
              inl (omega (arith, less, turn_one, turn_other)),
            )
        by (inr (same, inr (turn, inl less))) =
            let unshared : one.next ≡ one.turn = omega (arith, turn, later, first_most) in
            let marked : other.turn < other.next = omega (arith, less, unshared, turn) in
            let none : place_in_turn shared line ≡ 0 = unplaced one line at unshared in
            let some : 0 < place_in_turn shared its = is_placed other its there marked in
            inr (
              omega (arith, same, phase_one, phase_other),
              inr (omega (arith, turn, turn_one, turn_other), inl (omega (arith, none, some))),
            )
        by (inr (same, inr (turn, inr (next, rest)))) =
            let unshared : one.next ≡ one.turn = omega (arith, turn, later, first_most) in
            let neither : other.next ≡ other.turn = omega (arith, unshared, turn, next) in
            let none : place_in_turn shared line ≡ 0 = unplaced one line at unshared in
            let also : place_in_turn shared its ≡ 0 = unplaced other its there neither in
            inr (
              omega (arith, same, phase_one, phase_other),
              inr (
                omega (arith, turn, turn_one, turn_other),
                inr (none ∙ sym also, by_port (at.own unshared) (there.own neither) rest),
              ),
            )
          where
            by_port : line.port ≡ its_port one.event → its.port ≡ its_port other.event
                → AtMost (record { of = λ (item : Shown). its_port item.event; below = 0 } ∷ [])
                one other
                → AtMost (record { of = λ (entry : Entry). entry.port; below = count } ∷ []) line
                its
            by_port here away (inl less) = inl (omega (arith, less, here, away))
            by_port here away (inr (alike, rest)) = inr (here ∙ alike ∙ sym away, tt)

-- all lines of a run that is in order
module _ (phases : List (List Event)) (count : ℕ) (items : List Shown)
    (tells : AllByRecursion (IsTold count) items) (follows : EachTwo Follows items)
    (order : EachTwo (AtMost (item_ranks phases)) items)
    (within : AllByRecursion (λ item. item_phase phases item < length phases) items)
    (turns : AllByRecursion (λ item. item.turn ≤ length (flat_map shared_of items)) items) where
  abbrev pub all_shared : List Maker
  all_shared = flat_map shared_of items

  abbrev pub all_lines : List Entry
  all_lines = flat_map (λ item. item.entries) items

  places : (some : List Shown) → AllByRecursion (IsTold count) some
      → AllByRecursion (λ item. is_made_by_one_of all_shared (its_maker item)
      ≡ nat_lt item.turn item.next) some
      → AllByRecursion (λ item. AllByRecursion (IsPlaced phases count all_shared item) item.entries)
      some
  places [] told marks = tt
  places (item ∷ some) told marks =
      (placed phases count all_shared item told.0 marks.0, places some told.1 marks.1)

  all_placed : AllByRecursion
      (λ item. AllByRecursion (IsPlaced phases count all_shared item) item.entries) items
  all_placed = places items tells (marked items follows)

  befores : (some : List Shown) → AllByRecursion (IsTold count) some → EachTwo Follows some
      → EachTwo (AtMost (item_ranks phases)) some
      → EachTwo (IsBefore phases count all_shared) some
  befores [] told follows order = tt
  befores (item ∷ some) told follows order =
      (by some told.1 follows.0 order.0, befores some told.1 follows.1 order.1)
    where
      by : (others : List Shown) → AllByRecursion (IsTold count) others
          → AllByRecursion (Follows item) others
          → AllByRecursion (AtMost (item_ranks phases) item) others
          → AllByRecursion (IsBefore phases count all_shared item) others
      by [] its follows order = tt
      by (other ∷ others) its follows order = (
        record {
          order = order.0;
          follows = follows.0;
          first = turn_most count item told.0;
          second = turn_most count other its.0;
        },
        by others its.1 follows.1 order.1,
      )

  each_in_order : (some : List Shown) → AllByRecursion (IsTold count) some
      → AllByRecursion (λ item. AllByRecursion (IsPlaced phases count all_shared item) item.entries)
      some
      → AllByRecursion (λ item. EachTwo (InOrder phases count all_shared) item.entries) some
  each_in_order [] told at = tt
  each_in_order (item ∷ some) told at =
      (lines_in_order phases count all_shared item told.0 at.0, each_in_order some told.1 at.1)

  lines_ordered : EachTwo (InOrder phases count all_shared) all_lines
  lines_ordered =
      each_two_given (InOrder phases count all_shared) (IsBefore phases count all_shared)
      (IsPlaced phases count all_shared) (λ item. item.entries)
      (λ one other line its before at there.
      two_in_order phases count all_shared one other line its before at there) items
      (befores items tells follows order) all_placed (each_in_order items tells all_placed)

  lines_within : AllByRecursion (IsWithin (line_ranks phases all_shared count)) all_lines
  lines_within =
      each_given (IsWithin (line_ranks phases all_shared count)) (λ item. item.entries) items
      (by items all_placed within turns)
    where
      by : (some : List Shown)
          → AllByRecursion
          (λ item. AllByRecursion (IsPlaced phases count all_shared item) item.entries) some
          → AllByRecursion (λ item. item_phase phases item < length phases) some
          → AllByRecursion (λ item. item.turn ≤ length all_shared) some
          → AllByRecursion (λ item. AllByRecursion
          (IsWithin (line_ranks phases all_shared count)) item.entries) some
      by [] at below few = tt
      by (item ∷ some) at below few = (
        each_weaker (IsPlaced phases count all_shared item)
            (IsWithin (line_ranks phases all_shared count))
            (λ entry its.
            let phase : line_phase phases entry ≡ item_phase phases item = its.phase in
            let less : item_phase phases item < length phases = below.0 in
            let turn : entry.turn ≡ item.turn = its.turn in
            let most : item.turn ≤ length all_shared = few.0 in
            let place : place_in_turn all_shared entry ≡ place_by item entry = its.place in
            let two : place_by item entry ≤ 2 = place_most (nat_lt item.turn item.next)
            (nat_eq (its_port item.event) entry.port) in (
              omega (arith, phase, less),
              (omega (arith, turn, most), (omega (arith, place, two), (its.within, tt))),
            )) item.entries at.0,
        by some at.1 below.1 few.1,
      )

  -- they are what they are by their numbers
  pub lines_sieved : sieve (line_ranks phases all_shared count) all_lines ≡ all_lines
  lines_sieved = sieved (line_ranks phases all_shared count) all_lines lines_ordered lines_within
