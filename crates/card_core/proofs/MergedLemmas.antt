-- The log of a run in order is the merge of its ports' logs.
use Rattle.std.proofs.Common.{◌≡◌, ◌<◌, ◌≤◌, ◌+◌, ℕ, Bool, true, false, cond, nat_eq, nat_lt, List}
use Rattle.std.proofs.Common.{[], ◌∷◌, ◌++◌, filter, flat_map, length, map, refl, sym, ◌∙◌, ap}
use Rattle.std.proofs.Common.{arith, inl, inr, eqb-true, length-append}
use Rattle.std.proofs.lemmas.Bool.{eq-eqb, le-ltb, lt-ltb}
use Rattle.std.specs.List.{AllByRecursion, range_with_len}
use Rattle.std.specs.Prelude.{◌&&◌, ◌||◌}
use Rattle.plain_lists.specs.EachTwo.{EachTwo}
use Rattle.card_core.proofs.ChangeLemmas.{shared_of}
use Rattle.card_core.proofs.FollowLemmas.{Follows, its_maker, number_of}
use Rattle.card_core.proofs.FollowLemmas.{is_made, next_is, then_good, turn_is}
use Rattle.card_core.proofs.RankLemmas.{Rank}
use Rattle.card_core.proofs.RankLemmas.{each_weaker, flat_map_alike, sieve}
use Rattle.card_core.proofs.ShownLemmas.{IsFit, IsGood, Runs, Shown}
use Rattle.card_core.proofs.StatementLemmas.{its_port}
use Rattle.card_core.specs.Merge.{is_made_by_one_of, line_phase, lines_of, merge}
use Rattle.card_core.specs.Merge.{place_in_turn}
use Rattle.card_core.specs.Stretch.{lines_at}
use Rattle.card_core.specs.World.{WorldState}
use Rattle.card_core.specs.declared.entry.Entry.{Entry}
use Rattle.card_core.specs.declared.entry.Maker.{Maker}
use Rattle.card_core.specs.declared.event.Event.{Event}

-- by phase and turn, by the place in it, and by port
abbrev pub line_ranks : List (List Event) → List Maker → ℕ → List (Rank Entry)
line_ranks phases shared count =
    record { of = line_phase phases; below = length phases }
    ∷ record { of = λ entry. entry.turn; below = length shared + 1 }
    ∷ record { of = place_in_turn shared; below = 3 }
    ∷ record { of = λ entry. entry.port; below = count } ∷ []

-- a filter of a filter
filter_both : {X : Type 0} (p q : X → Bool) (xs : List X)
    → filter p (filter q xs) ≡ filter (λ x. q x && p x) xs
filter_both p q [] = refl
filter_both {X} p q (x ∷ xs) = by (q x) (filter_both p q xs)
  where
    by : (here : Bool) → filter p (filter q xs) ≡ filter (λ its. q its && p its) xs
        → filter p (cond here (x ∷ filter q xs) (filter q xs))
        ≡ cond (here && p x) (x ∷ filter (λ its. q its && p its) xs)
        (filter (λ its. q its && p its) xs)
    by true rest = ap (λ (its : List X). cond (p x) (x ∷ its) its) rest
    by false rest = rest

filter_alike : {X : Type 0} (p q : X → Bool) → ((x : X) → p x ≡ q x) → (xs : List X)
    → filter p xs ≡ filter q xs
filter_alike p q alike [] = refl
filter_alike {X} p q alike (x ∷ xs) =
    ap (λ (here : Bool). cond here (x ∷ filter p xs) (filter p xs)) (alike x)
    ∙ ap (λ (its : List X). cond (q x) (x ∷ its) its) (filter_alike p q alike xs)

and_in_order : (a b c d : Bool) → (d && (a && b && c)) ≡ (((a && b) && c) && d)
and_in_order true true true true = refl
and_in_order true true true false = refl
and_in_order true true false true = refl
and_in_order true true false false = refl
and_in_order true false c true = refl
and_in_order true false c false = refl
and_in_order false b c true = refl
and_in_order false b c false = refl

filters_in_order : {X : Type 0} (a b c d : X → Bool) (xs : List X)
    → filter (λ x. a x && b x && c x) (filter d xs)
    ≡ filter d (filter c (filter b (filter a xs)))
filters_in_order {X} a b c d xs =
    filter_both (λ x. a x && b x && c x) d xs
    ∙ filter_alike (λ x. d x && (a x && b x && c x)) (λ x. ((a x && b x) && c x) && d x)
    (λ x. and_in_order (a x) (b x) (c x) (d x)) xs
    ∙ sym (filter_both d (λ x. (a x && b x) && c x) xs)
    ∙ ap (filter d) (sym (filter_both c (λ x. a x && b x) xs)
    ∙ ap (filter c) (sym (filter_both b a xs)))

mapped_alike : {X Y Z : Type 0} (f : Y → List Z) (g : X → Y) (h : X → List Z)
    → ((x : X) → f (g x) ≡ h x) → (xs : List X) → flat_map f (map g xs) ≡ flat_map h xs
mapped_alike f g h alike [] = refl
mapped_alike {X} {Y} {Z} f g h alike (x ∷ xs) =
    ap (λ (its : List Z). its ++ flat_map f (map g xs)) (alike x)
    ∙ ap (λ (its : List Z). h x ++ its) (mapped_alike f g h alike xs)

-- the merge of the logs into which some lines are split is those lines, one number after another
pub merge_is : (phases : List (List Event)) (shared : List Maker) (count : ℕ)
    (entries : List Entry)
    → merge phases (record {
      logs = map (λ port. lines_at port entries) (range_with_len 0 count);
      shared = shared;
    }) ≡ sieve (line_ranks phases shared count) entries
merge_is phases shared count entries =
    flat_map_alike
    (λ phase. flat_map (λ turn. flat_map (λ place. flat_map
    (lines_of phases shared phase turn place) logs) (0 ∷ 1 ∷ 2 ∷ []))
    (range_with_len 0 (length shared + 1)))
    (λ phase. flat_map (λ turn. flat_map (λ place. flat_map (by phase turn place)
    (range_with_len 0 count)) (0 ∷ 1 ∷ 2 ∷ []))
    (range_with_len 0 (length shared + 1)))
    (λ phase. flat_map_alike
    (λ turn. flat_map (λ place. flat_map
    (lines_of phases shared phase turn place) logs) (0 ∷ 1 ∷ 2 ∷ []))
    (λ turn. flat_map (λ place. flat_map (by phase turn place)
    (range_with_len 0 count)) (0 ∷ 1 ∷ 2 ∷ []))
    (λ turn. flat_map_alike
    (λ place. flat_map (lines_of phases shared phase turn place) logs)
    (λ place. flat_map (by phase turn place) (range_with_len 0 count))
    (λ place. mapped_alike (lines_of phases shared phase turn place)
    (λ port. lines_at port entries) (by phase turn place)
    (λ port. filters_in_order (λ entry. nat_eq (line_phase phases entry) phase)
    (λ entry. nat_eq entry.turn turn) (λ entry. nat_eq (place_in_turn shared entry) place)
    (λ entry. nat_eq entry.port port) entries) (range_with_len 0 count))
    (0 ∷ 1 ∷ 2 ∷ []))
    (range_with_len 0 (length shared + 1)))
    (range_with_len 0 (length phases))
  where
    logs : List (List Entry)
    logs = map (λ port. lines_at port entries) (range_with_len 0 count)

    by : ℕ → ℕ → ℕ → ℕ → List Entry
    by phase turn place port =
        filter (λ entry. nat_eq entry.port port)
        (filter (λ entry. nat_eq (place_in_turn shared entry) place)
        (filter (λ entry. nat_eq entry.turn turn)
        (filter (λ entry. nat_eq (line_phase phases entry) phase) entries)))

and_false : (its : Bool) → (its && false) ≡ false
and_false true = refl
and_false false = refl

or_false : (its : Bool) → (its || false) ≡ its
or_false true = refl
or_false false = refl

both_plain : (its : Bool) → ((its && true) || false) ≡ its
both_plain true = refl
both_plain false = refl

-- which items of a run were shared
one_of_append : (makers others : List Maker) (maker : Maker)
    → is_made_by_one_of (makers ++ others) maker
    ≡ (is_made_by_one_of makers maker || is_made_by_one_of others maker)
one_of_append [] others maker = refl
one_of_append (one ∷ makers) others maker =
    by (nat_eq one.port maker.port && nat_eq one.number maker.number)
    (one_of_append makers others maker)
  where
    by : (here : Bool)
        → is_made_by_one_of (makers ++ others) maker
        ≡ (is_made_by_one_of makers maker || is_made_by_one_of others maker)
        → (here || is_made_by_one_of (makers ++ others) maker)
        ≡ ((here || is_made_by_one_of makers maker) || is_made_by_one_of others maker)
    by true rest = refl
    by false rest = rest

not_both : (one other number another : ℕ) → (one ≡ other → number ≡ another → ⊥)
    → (nat_eq one other && nat_eq number another) ≡ false
not_both one other number another apart =
    by (nat_eq one other) (nat_eq number another) refl refl
  where
    by : (same alike : Bool) → nat_eq one other ≡ same → nat_eq number another ≡ alike
        → (same && alike) ≡ false
    by true true is its = absurd (apart (eqb-true one other is) (eqb-true number another its))
    by true false is its = refl
    by false alike is its = refl

-- no later item is of the statement of an earlier one
module _ (one other : Shown) (follows : Follows one other) where
  pub later_apart : (nat_eq (its_port other.event) (its_port one.event)
      && nat_eq (number_of other) (number_of one)) ≡ false
  later_apart =
      not_both (its_port other.event) (its_port one.event) (number_of other) (number_of one)
      (λ same alike.
      let less : one.here.statements < other.here.statements = follows.number (sym same) in
      omega (arith, less, alike))

  pub earlier_apart : (nat_eq (its_port one.event) (its_port other.event)
      && nat_eq (number_of one) (number_of other)) ≡ false
  earlier_apart =
      not_both (its_port one.event) (its_port other.event) (number_of one) (number_of other)
      (λ same alike.
      let less : one.here.statements < other.here.statements = follows.number same in
      omega (arith, less, alike))

pub same_maker : (port number : ℕ) → (nat_eq port port && nat_eq number number) ≡ true
same_maker port number =
    ap (λ (its : Bool). its && nat_eq number number) (eq-eqb port port refl)
    ∙ eq-eqb number number refl

of_item : (item : Shown) (maker : Maker) (here : Bool)
    → (nat_eq (its_port item.event) maker.port && nat_eq (number_of item) maker.number) ≡ here
    → is_made_by_one_of (shared_of item) maker ≡ (nat_lt item.turn item.next && here)
of_item item maker here is = by (nat_lt item.turn item.next)
  where
    by : (shared : Bool) → is_made_by_one_of (cond shared (its_maker item ∷ []) []) maker
        ≡ (shared && here)
    by true = ap (λ (its : Bool). its || false) is ∙ or_false here
    by false = refl

none_later : (item : Shown) (items : List Shown) → AllByRecursion (Follows item) items
    → is_made_by_one_of (flat_map shared_of items) (its_maker item) ≡ false
none_later item [] follows = refl
none_later item (other ∷ items) follows =
    one_of_append (shared_of other) (flat_map shared_of items) (its_maker item)
    ∙ ap (λ (its : Bool). its || is_made_by_one_of (flat_map shared_of items) (its_maker item))
    (of_item other (its_maker item) false (later_apart item other follows.0)
    ∙ and_false (nat_lt other.turn other.next))
    ∙ none_later item items follows.1

pub marked : (items : List Shown) → EachTwo Follows items
    → AllByRecursion (λ item. is_made_by_one_of (flat_map shared_of items) (its_maker item)
    ≡ nat_lt item.turn item.next) items
marked [] follows = tt
marked (item ∷ items) follows = (
  one_of_append (shared_of item) (flat_map shared_of items) (its_maker item)
      ∙ ap (λ (its : Bool). is_made_by_one_of (shared_of item) (its_maker item) || its)
      (none_later item items follows.0)
      ∙ ap (λ (its : Bool). its || false)
      (of_item item (its_maker item) true (same_maker (its_port item.event) (number_of item)))
      ∙ both_plain (nat_lt item.turn item.next),
  later items follows.0 (marked items follows.1),
)
  where
    later : (others : List Shown) → AllByRecursion (Follows item) others
        → AllByRecursion (λ other. is_made_by_one_of (flat_map shared_of items) (its_maker other)
        ≡ nat_lt other.turn other.next) others
        → AllByRecursion (λ other.
        is_made_by_one_of (shared_of item ++ flat_map shared_of items) (its_maker other)
        ≡ nat_lt other.turn other.next) others
    later [] its are = tt
    later (other ∷ others) its are = (
      one_of_append (shared_of item) (flat_map shared_of items) (its_maker other)
          ∙ ap (λ (its : Bool). its
          || is_made_by_one_of (flat_map shared_of items) (its_maker other))
          (of_item item (its_maker other) false (earlier_apart item other its.0)
          ∙ and_false (nat_lt item.turn item.next))
          ∙ are.0,
      later others its.1 are.1,
    )

-- how many shared statements there were at each item
module _ (count : ℕ) where
  raised : (state : WorldState) (item : Shown) (items : List Shown) (after : WorldState)
      → IsGood count state → IsFit count item → (runs : Runs state (item ∷ items) after)
      → runs.0.state.shared ≡ state.shared + length (shared_of item)
  raised state item items after good fit runs =
      elim (is_made count state item items after good fit runs).shared [
        | inl same ↦
            let none : length (shared_of item) ≡ 0 =
            ap (marks item) (le-ltb item.turn item.next (omega (arith, before, now, same))) in
            omega (arith, same, none)
        | inr more ↦
            let one : length (shared_of item) ≡ 1 =
            ap (marks item) (lt-ltb item.turn item.next (omega (arith, before, now, more))) in
            omega (arith, more, one)
      ]
    where
      before : item.turn ≡ state.shared
      before = turn_is count state item items after good fit runs

      now : item.next ≡ runs.0.state.shared
      now = next_is count state item items after good fit runs

      marks : Shown → Bool → ℕ
      marks item its = length (cond its (its_maker item ∷ []) [])

  pub turns_within : (items : List Shown) (state after : WorldState) → IsGood count state
      → AllByRecursion (IsFit count) items → Runs state items after
      → AllByRecursion (λ item. item.turn ≤ state.shared + length (flat_map shared_of items)) items
  turns_within [] state after good fit runs = tt
  turns_within (item ∷ items) state after good fit runs = (
    let before : item.turn ≡ state.shared =
        turn_is count state item items after good fit.0 runs in omega (arith, before),
    each_weaker (λ one. one.turn ≤ runs.0.state.shared + length (flat_map shared_of items))
        (λ one. one.turn ≤ state.shared + length (flat_map shared_of (item ∷ items)))
        (λ one less.
        let more : runs.0.state.shared ≡ state.shared + length (shared_of item) =
        raised state item items after good fit.0 runs in
        let all : length (flat_map shared_of (item ∷ items))
        ≡ length (shared_of item) + length (flat_map shared_of items) =
        length-append (shared_of item) (flat_map shared_of items) in
        omega (arith, less, more, all)) items
        (turns_within items runs.0.state after
        (then_good count state item items after good fit.0 runs) fit.1 runs.3),
  )
