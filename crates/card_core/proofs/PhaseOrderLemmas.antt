-- The order of the merge is one of those in which the statements of the phases may come.
use Rattle.std.proofs.Common.{◌≡◌, ◌+◌, ℕ, Bool, true, false, cond, nat_eq, List, [], ◌∷◌}
use Rattle.std.proofs.Common.{◌++◌, filter, flat_map, length, map, refl, sym, ◌∙◌, ap, arith, inl}
use Rattle.std.proofs.Common.{inr}
use Rattle.std.proofs.Common.{append-nil, eqb-true}
use Rattle.std.proofs.lemmas.Bool.{eq-eqb, eqb-false, ne_eqb}
use Rattle.std.proofs.lemmas.List.{map-append}
use Rattle.std.proofs.lemmas.List.Elements.{filter-append}
use Rattle.std.specs.List.{AllByRecursion, range_with_len}
use Rattle.std.specs.Prelude.{◌&&◌}
use Rattle.card_core.proofs.ChangeLemmas.{either_order, one_apart}
use Rattle.card_core.proofs.FollowLemmas.{comes_by}
use Rattle.card_core.proofs.RankLemmas.{each_filter, each_weaker, of_number}
use Rattle.card_core.proofs.ShownLemmas.{IsFit, MaySwap, Shown}
use Rattle.card_core.proofs.StatementLemmas.{its_port}
use Rattle.card_core.specs.Merge.{ComeInPhases, ComesToPort}
use Rattle.card_core.specs.Stretch.{is_for}
use Rattle.card_core.specs.declared.event.Event.{Event}

abbrev pub events_in : List Shown → List Event
events_in items = map (λ item. item.event) items

-- the items of each number are the statements of the phase at that place, port by port
abbrev pub KeepsBy : (Shown → ℕ) → ℕ → List (List Event) → List Shown → Type 0
KeepsBy key first [] items = Unit {0}
KeepsBy key first (phase ∷ phases) items =
    ((port : ℕ) → filter (is_for port) (events_in (of_number key first items))
    ≡ filter (is_for port) phase)
    × KeepsBy key (first + 1) phases items

module _ (key : Shown → ℕ) where
  -- all items of a number, and none
  all_of : (n : ℕ) (items : List Shown) → AllByRecursion (λ item. key item ≡ n) items
      → of_number key n items ≡ items
  all_of n [] are = refl
  all_of n (item ∷ items) are =
      ap (λ (here : Bool). cond here (item ∷ of_number key n items) (of_number key n items))
      (eq-eqb (key item) n are.0)
      ∙ ap (λ (rest : List Shown). item ∷ rest) (all_of n items are.1)

  none_of : (n : ℕ) (items : List Shown) → AllByRecursion (λ item. key item ≡ n → ⊥) items
      → of_number key n items ≡ []
  none_of n [] are = refl
  none_of n (item ∷ items) are =
      ap (λ (here : Bool). cond here (item ∷ of_number key n items) (of_number key n items))
      (ne_eqb (key item) n are.0)
      ∙ none_of n items are.1

  module _ (other : Shown → ℕ) where
    alike_of : (n m : ℕ) (items : List Shown)
        → AllByRecursion (λ item. nat_eq (key item) n ≡ nat_eq (other item) m) items
        → of_number key n items ≡ of_number other m items
    alike_of n m [] are = refl
    alike_of n m (item ∷ items) are =
        ap (λ (here : Bool). cond here (item ∷ of_number key n items) (of_number key n items)) are.0
        ∙ ap (λ (rest : List Shown). cond (nat_eq (other item) m) (item ∷ rest) rest)
        (alike_of n m items are.1)

    pub keeps_alike : ((item : Shown) → key item ≡ other item) → (first : ℕ)
        (phases : List (List Event)) (items : List Shown) → KeepsBy key first phases items
        → KeepsBy other first phases items
    keeps_alike same first [] items keeps = tt
    keeps_alike same first (phase ∷ phases) items keeps = (
      λ port. ap (λ (its : List Shown). filter (is_for port) (events_in its))
          (sym (alike_of first first items (by items))) ∙ keeps.0 port,
      keeps_alike same (first + 1) phases items keeps.1,
    )
      where
        by : (some : List Shown)
            → AllByRecursion (λ item. nat_eq (key item) first ≡ nat_eq (other item) first) some
        by [] = tt
        by (item ∷ some) = (ap (λ (n : ℕ). nat_eq n first) (same item), by some)

-- a phase and the others, whose numbers are one less by themselves
module _ (key rest_key : Shown → ℕ) (front back : List Shown)
    (first_is : AllByRecursion (λ item. key item ≡ 0) front)
    (later_is : AllByRecursion (λ item. key item ≡ 1 + rest_key item) back) where
  front_not : (n : ℕ) (items : List Shown) → AllByRecursion (λ item. key item ≡ 0) items
      → AllByRecursion (λ item. key item ≡ n + 1 → ⊥) items
  front_not n [] are = tt
  front_not n (item ∷ items) are =
      let is : key item ≡ 0 = are.0 in
      ((λ same. absurd (omega (arith, is, same))), front_not n items are.1)

  back_not : (items : List Shown) → AllByRecursion (λ item. key item ≡ 1 + rest_key item) items
      → AllByRecursion (λ item. key item ≡ 0 → ⊥) items
  back_not [] are = tt
  back_not (item ∷ items) are =
      let is : key item ≡ 1 + rest_key item = are.0 in
      ((λ same. absurd (omega (arith, is, same))), back_not items are.1)

  back_as : (n : ℕ) (items : List Shown)
      → AllByRecursion (λ item. key item ≡ 1 + rest_key item) items
      → AllByRecursion (λ item. nat_eq (key item) (n + 1) ≡ nat_eq (rest_key item) n) items
  back_as n [] are = tt
  back_as n (item ∷ items) are = (by (nat_eq (rest_key item) n) refl, back_as n items are.1)
    where
      is : key item ≡ 1 + rest_key item
      is = are.0

      by : (here : Bool) → nat_eq (rest_key item) n ≡ here → nat_eq (key item) (n + 1) ≡ here
      by true same =
          let equal : rest_key item ≡ n = eqb-true (rest_key item) n same in
          eq-eqb (key item) (n + 1) (omega (arith, is, equal))
      by false apart =
          let differ : rest_key item ≡ n → ⊥ = eqb-false (rest_key item) n apart in
          ne_eqb (key item) (n + 1) (λ same. differ (omega (arith, is, same)))

  pub first_of_both : of_number key 0 (front ++ back) ≡ front
  first_of_both =
      filter-append (λ (item : Shown). nat_eq (key item) 0) front back
      ∙ ap (λ (its : List Shown). of_number key 0 front ++ its)
      (none_of key 0 back (back_not back later_is))
      ∙ append-nil (of_number key 0 front)
      ∙ all_of key 0 front first_is

  later_of_both : (n : ℕ) → of_number key (n + 1) (front ++ back) ≡ of_number rest_key n back
  later_of_both n =
      filter-append (λ (item : Shown). nat_eq (key item) (n + 1)) front back
      ∙ ap (λ (its : List Shown). its ++ of_number key (n + 1) back)
      (none_of key (n + 1) front (front_not n front first_is))
      ∙ alike_of key rest_key (n + 1) n back (back_as n back later_is)

  pub keeps_later : (n : ℕ) (phases : List (List Event)) → KeepsBy rest_key n phases back
      → KeepsBy key (n + 1) phases (front ++ back)
  keeps_later n [] keeps = tt
  keeps_later n (phase ∷ phases) keeps = (
    λ port. ap (λ (its : List Shown). filter (is_for port) (events_in its)) (later_of_both n)
        ∙ keeps.0 port,
    keeps_later (n + 1) phases keeps.1,
  )

-- the events of a number at a port
abbrev pub picked : (Shown → ℕ) → ℕ → ℕ → Shown → List Event
picked key n port item =
    cond (nat_eq (key item) n && is_for port item.event) (item.event ∷ []) []

picked_are : (key : Shown → ℕ) (n port : ℕ) (items : List Shown)
    → filter (is_for port) (events_in (of_number key n items))
    ≡ flat_map (picked key n port) items
picked_are key n port [] = refl
picked_are key n port (item ∷ items) =
    by (nat_eq (key item) n) (is_for port item.event) refl (picked_are key n port items)
  where
    by : (here its : Bool) → is_for port item.event ≡ its
        → filter (is_for port) (events_in (of_number key n items))
        ≡ flat_map (picked key n port) items
        → filter (is_for port)
        (events_in (cond here (item ∷ of_number key n items) (of_number key n items)))
        ≡ cond (here && is_for port item.event) (item.event ∷ []) []
        ++ flat_map (picked key n port) items
    by true its is rest =
        ap (taken (filter (is_for port) (events_in (of_number key n items)))) is
        ∙ chosen its rest
        ∙ ap (λ (one : Bool). cond one (item.event ∷ []) [] ++ flat_map (picked key n port) items)
        (sym is)
      where
        taken : List Event → Bool → List Event
        taken events one = cond one (item.event ∷ events) events

        chosen : (one : Bool)
            → filter (is_for port) (events_in (of_number key n items))
            ≡ flat_map (picked key n port) items
            → taken (filter (is_for port) (events_in (of_number key n items))) one
            ≡ cond one (item.event ∷ []) [] ++ flat_map (picked key n port) items
        chosen true same = ap (λ (its : List Event). item.event ∷ its) same
        chosen false same = same
    by false its is rest = rest

not_picked : (key : Shown → ℕ) (n port : ℕ) (item : Shown) → ComesToPort item.event
    → (its_port item.event ≡ port → ⊥) → picked key n port item ≡ []
not_picked key n port item comes apart =
    ap (marked (nat_eq (key item) n)) (comes_by port item.event comes
    ∙ ne_eqb port (its_port item.event) (λ same. apart (sym same)))
    ∙ never (nat_eq (key item) n)
  where
    marked : Bool → Bool → List Event
    marked one here = cond (one && here) (item.event ∷ []) []

    never : (one : Bool) → marked one false ≡ []
    never true = refl
    never false = refl

pub picked_either : (key : Shown → ℕ) (n port : ℕ) (one other : Shown) → ComesToPort one.event
    → ComesToPort other.event → MaySwap one other
    → picked key n port one ++ picked key n port other
    ≡ picked key n port other ++ picked key n port one
picked_either key n port one other comes also may =
    either_order (picked key n port one) (picked key n port other)
    (elim (one_apart port (its_port one.event) (its_port other.event) may.apart) [
      | inl away ↦ inl (not_picked key n port one comes away)
      | inr away ↦ inr (not_picked key n port other also away)
    ])

-- items in another order of which each port has the same of each number
pub keeps_again : (key : Shown → ℕ) (items others : List Shown)
    → ((n port : ℕ) → flat_map (picked key n port) others ≡ flat_map (picked key n port) items)
    → (first : ℕ) (phases : List (List Event)) → KeepsBy key first phases items
    → KeepsBy key first phases others
keeps_again key items others same first [] keeps = tt
keeps_again key items others same first (phase ∷ phases) keeps = (
  λ port. picked_are key first port others ∙ same first port
      ∙ sym (picked_are key first port items) ∙ keeps.0 port,
  keeps_again key items others same (first + 1) phases keeps.1,
)

each_comes : (count : ℕ) (items : List Shown) → AllByRecursion (IsFit count) items
    → AllByRecursion ComesToPort (events_in items)
each_comes count [] fits = tt
each_comes count (item ∷ items) fits = (fits.0.comes, each_comes count items fits.1)

-- such items come in the phases
pub come_by_numbers : (count : ℕ) (key : Shown → ℕ) (items : List Shown)
    → AllByRecursion (IsFit count) items → (first : ℕ) (phases : List (List Event))
    → KeepsBy key first phases items
    → ComeInPhases phases (events_in (flat_map (λ n. of_number key n items)
    (range_with_len first (length phases))))
come_by_numbers count key items fits first [] keeps = refl
come_by_numbers count key items fits first (phase ∷ phases) keeps = (
  events_in (of_number key first items),
  events_in (flat_map (λ n. of_number key n items) (range_with_len (first + 1) (length phases))),
  map-append (λ item. item.event) (of_number key first items)
      (flat_map (λ n. of_number key n items) (range_with_len (first + 1) (length phases))),
  record {
    statements = each_comes count (of_number key first items)
        (each_weaker (λ item. IsFit count item × (nat_eq (key item) first ≡ true)) (IsFit count)
        (λ item its. its.0) (of_number key first items)
        (each_filter (IsFit count) (λ item. nat_eq (key item) first) items fits));
    ports = keeps.0;
  },
  come_by_numbers count key items fits (first + 1) phases keeps.1,
)
