-- The statements that the lanes of a run tell are those of the run in the order of the merge.
use Rattle.std.proofs.Common.{◌≡◌, ◌≤◌, ◌+◌, ◌-◌, ℕ, suc, Bool, true, false, cond, nat_eq, List, []}
use Rattle.std.proofs.Common.{◌∷◌, ◌++◌, filter, flat_map, map, refl, sym, ◌∙◌, ap, subst, arith}
use Rattle.std.proofs.Common.{append-nil}
use Rattle.std.proofs.lemmas.List.Elements.{filter-append}
use Rattle.std.proofs.lemmas.List.{map-append}
use Rattle.std.specs.List.{AllByRecursion}
use Rattle.std.specs.Prelude.{◌&&◌, ◌||◌, slice_index_or}
use Rattle.plain_lists.specs.EachTwo.{EachTwo}
use Rattle.card_core.proofs.FollowLemmas.{Follows, IsBehind, IsItemLine, IsTold, behind, comes_by}
use Rattle.card_core.proofs.FollowLemmas.{here_is, is_made, its_maker, number_of, then_good}
use Rattle.card_core.proofs.LineLemmas.{telling_lines}
use Rattle.card_core.proofs.MergedLemmas.{earlier_apart, later_apart, same_maker}
use Rattle.card_core.proofs.PhaseOrderLemmas.{events_in}
use Rattle.card_core.proofs.RankLemmas.{each_both, each_filter, each_weaker}
use Rattle.card_core.proofs.ShownLemmas.{IsFit, IsGood, Runs, Shown, comes_there, told_item}
use Rattle.card_core.proofs.StatementLemmas.{its_port}
use Rattle.card_core.specs.Merge.{ComeInPhases, event_numbered, is_made_by_one_of, maker_of}
use Rattle.card_core.specs.Merge.{statement_told, tells_statement}
use Rattle.card_core.specs.Stretch.{is_for}
use Rattle.card_core.specs.Told.{Told}
use Rattle.card_core.specs.World.{WorldState, count_if, port_in}
use Rattle.card_core.specs.declared.entry.Entry.{Entry}
use Rattle.card_core.specs.declared.entry.Maker.{Maker}
use Rattle.card_core.specs.declared.event.Event.{Event}
use Rattle.card_core.specs.declared.event.Event.TheVariants as events

abbrev entries_in : List Shown → List Entry
entries_in items = flat_map (λ item. item.entries) items

-- the lines that this statement made
abbrev made_by : Maker → Entry → Bool
made_by maker entry = is_made_by_one_of (maker ∷ []) (maker_of entry)

abbrev lines_by : Maker → List Entry → List Entry
lines_by maker entries = filter (made_by maker) entries

module _ (count : ℕ) where
  -- each item has one line that tells it
  told_once : {X : Type 0} (f : Maker → X) (items : List Shown)
      → AllByRecursion (IsTold count) items
      → map (λ entry. f (maker_of entry)) (telling_lines (entries_in items))
      ≡ map (λ item. f (its_maker item)) items
  told_once f [] told = refl
  told_once {X} f (item ∷ items) told =
      ap (map of_line) (filter-append (λ (entry : Entry). tells_statement entry.line)
      item.entries (entries_in items))
      ∙ map-append of_line (telling_lines item.entries) (telling_lines (entries_in items))
      ∙ ap (λ (its : List Entry). map of_line its
      ++ map of_line (telling_lines (entries_in items))) told.0.tells.1
      ∙ ap (λ (maker : Maker). f maker ∷ map of_line (telling_lines (entries_in items))) is
      ∙ ap (λ (its : List X). f (its_maker item) ∷ its) (told_once f items told.1)
    where
      of_line : Entry → X
      of_line entry = f (maker_of entry)

      is : maker_of told.0.tells.0 ≡ its_maker item
      is =
          (subst (AllByRecursion (λ entry. IsItemLine count item entry
          × (tells_statement entry.line ≡ true))) told.0.tells.1
          (each_filter (IsItemLine count item) (λ entry. tells_statement entry.line) item.entries
          told.0.lines)).0.0.maker

  all_by : (item : Shown) (entries : List Entry) → AllByRecursion (IsItemLine count item) entries
      → lines_by (its_maker item) entries ≡ entries
  all_by item [] lines = refl
  all_by item (entry ∷ entries) lines =
      ap (λ (here : Bool). cond here (entry ∷ lines_by (its_maker item) entries)
      (lines_by (its_maker item) entries))
      (ap (λ (maker : Maker). is_made_by_one_of (its_maker item ∷ []) maker) lines.0.maker
      ∙ ap (λ (same : Bool). same || false) (same_maker (its_port item.event) (number_of item)))
      ∙ ap (λ (its : List Entry). entry ∷ its) (all_by item entries lines.1)

  -- lines of another item
  none_by : (item other : Shown)
      → (nat_eq (its_port item.event) (its_port other.event)
      && nat_eq (number_of item) (number_of other)) ≡ false
      → (entries : List Entry) → AllByRecursion (IsItemLine count other) entries
      → lines_by (its_maker item) entries ≡ []
  none_by item other apart [] lines = refl
  none_by item other apart (entry ∷ entries) lines =
      ap (λ (here : Bool). cond here (entry ∷ lines_by (its_maker item) entries)
      (lines_by (its_maker item) entries))
      (ap (λ (maker : Maker). is_made_by_one_of (its_maker item ∷ []) maker) lines.0.maker
      ∙ ap (λ (same : Bool). same || false) apart)
      ∙ none_by item other apart entries lines.1

  none_after : (item : Shown) (items : List Shown) → AllByRecursion (IsTold count) items
      → AllByRecursion (Follows item) items → lines_by (its_maker item) (entries_in items) ≡ []
  none_after item [] told follows = refl
  none_after item (other ∷ items) told follows =
      filter-append (made_by (its_maker item)) other.entries (entries_in items)
      ∙ ap (λ (its : List Entry). its ++ lines_by (its_maker item) (entries_in items))
      (none_by item other (earlier_apart item other follows.0) other.entries told.0.lines)
      ∙ none_after item items told.1 follows.1

  -- the lines of a run that an item's statement made are the item's
  pub lines_again : (items : List Shown) → AllByRecursion (IsTold count) items
      → EachTwo Follows items
      → AllByRecursion (λ item. lines_by (its_maker item) (entries_in items) ≡ item.entries) items
  lines_again [] told follows = tt
  lines_again (item ∷ items) told follows = (
    filter-append (made_by (its_maker item)) item.entries (entries_in items)
        ∙ ap (λ (its : List Entry). its ++ lines_by (its_maker item) (entries_in items))
        (all_by item item.entries told.0.lines)
        ∙ ap (λ (its : List Entry). item.entries ++ its)
        (none_after item items told.1 follows.0)
        ∙ append-nil item.entries,
    later items follows.0 (lines_again items told.1 follows.1),
  )
    where
      later : (others : List Shown) → AllByRecursion (Follows item) others
          → AllByRecursion (λ other. lines_by (its_maker other) (entries_in items)
          ≡ other.entries) others
          → AllByRecursion (λ other. lines_by (its_maker other) (item.entries ++ entries_in items)
          ≡ other.entries) others
      later [] follow are = tt
      later (other ∷ others) follow are = (
        filter-append (made_by (its_maker other)) item.entries (entries_in items)
            ∙ ap (λ (its : List Entry). its ++ lines_by (its_maker other) (entries_in items))
            (none_by other item (later_apart item other follow.0) item.entries told.0.lines)
            ∙ are.0,
        later others follow.1 are.1,
      )

  -- an item's statement stands at its port where its number says
  abbrev pub IsNumbered : WorldState → List Event → Shown → Type 0
  IsNumbered state came item =
      slice_index_or (filter (is_for (its_port item.event)) came)
      (item.here.statements - (port_in state (its_port item.event)).statements) events.Power
      ≡ item.event

  pub numbered : (items : List Shown) (state after : WorldState) → IsGood count state
      → AllByRecursion (IsFit count) items → Runs state items after
      → AllByRecursion (IsNumbered state (events_in items)) items
  numbered [] state after good fit runs = tt
  numbered (item ∷ items) state after good fit runs = (
    first,
    both_so items (behind count items runs.0.state after good_now fit.1 runs.3) fit.1
        (numbered items runs.0.state after good_now fit.1 runs.3),
  )
    where
      good_now : IsGood count runs.0.state
      good_now = then_good count state item items after good fit.0 runs

      at_number : ℕ → List Event → Event
      at_number n came = slice_index_or came n events.Power

      first : IsNumbered state (item.event ∷ events_in items) item
      first =
          let is : item.here.statements ≡ (port_in state (its_port item.event)).statements =
          here_is count state item items after good fit.0 runs in
          let none : item.here.statements - (port_in state (its_port item.event)).statements ≡ 0 =
          omega (arith, is) in
          ap (λ (n : ℕ). at_number n
          (filter (is_for (its_port item.event)) (item.event ∷ events_in items))) none
          ∙ ap (λ (here : Bool). at_number 0
          (cond here (item.event ∷ filter (is_for (its_port item.event)) (events_in items))
          (filter (is_for (its_port item.event)) (events_in items))))
          (comes_there item.event fit.0.comes)

      one_later : (other : Shown) → IsBehind runs.0.state other
          → IsNumbered runs.0.state (events_in items) other
          → IsNumbered state (item.event ∷ events_in items) other
      one_later other behind is =
          by (nat_eq (its_port other.event) (its_port item.event))
          (comes_by (its_port other.event) item.event fit.0.comes)
          ((is_made count state item items after good fit.0 runs).counts (its_port other.event))
        where
          port : ℕ
          port = its_port other.event

          by : (here : Bool) → is_for port item.event ≡ here
              → (port_in runs.0.state port).statements
              ≡ (port_in state port).statements + count_if here
              → slice_index_or (cond (is_for port item.event)
              (item.event ∷ filter (is_for port) (events_in items))
              (filter (is_for port) (events_in items)))
              (other.here.statements - (port_in state port).statements) events.Power
              ≡ other.event
          by true here counts =
              let more : (port_in runs.0.state port).statements ≤ other.here.statements =
              behind.number in
              let next : other.here.statements - (port_in state port).statements
              ≡ suc (other.here.statements - (port_in runs.0.state port).statements) =
              omega (arith, more, counts) in
              ap (λ (its : Bool). at_number
              (other.here.statements - (port_in state port).statements)
              (cond its (item.event ∷ filter (is_for port) (events_in items))
              (filter (is_for port) (events_in items)))) here
              ∙ ap (λ (n : ℕ). at_number n
              (item.event ∷ filter (is_for port) (events_in items))) next
              ∙ is
          by false here counts =
              let same : other.here.statements - (port_in state port).statements
              ≡ other.here.statements - (port_in runs.0.state port).statements =
              omega (arith, counts) in
              ap (λ (its : Bool). at_number
              (other.here.statements - (port_in state port).statements)
              (cond its (item.event ∷ filter (is_for port) (events_in items))
              (filter (is_for port) (events_in items)))) here
              ∙ ap (λ (n : ℕ). at_number n (filter (is_for port) (events_in items))) same
              ∙ is

      both_so : (others : List Shown) → AllByRecursion (IsBehind runs.0.state) others
          → AllByRecursion (IsFit count) others
          → AllByRecursion (IsNumbered runs.0.state (events_in items)) others
          → AllByRecursion (IsNumbered state (item.event ∷ events_in items)) others
      both_so [] behinds fits are = tt
      both_so (other ∷ others) behinds fits are = (
        one_later other behinds.0 are.0,
        both_so others behinds.1 fits.1 are.1,
      )

-- the statements of a port are those of the phases one after another
pub phases_at : (phases : List (List Event)) (came : List Event) → ComeInPhases phases came
    → (port : ℕ)
    → filter (is_for port) came ≡ filter (is_for port) (flat_map (λ phase. phase) phases)
phases_at [] came none port = ap (filter (is_for port)) none
phases_at (phase ∷ phases) came come port =
    ap (filter (is_for port)) come.2
    ∙ filter-append (is_for port) come.0 come.1
    ∙ ap (λ (its : List Event). its ++ filter (is_for port) come.1) (come.3.ports port)
    ∙ ap (λ (its : List Event). filter (is_for port) phase ++ its)
    (phases_at phases come.1 come.4 port)
    ∙ sym (filter-append (is_for port) phase (flat_map (λ its. its) phases))

each_mapped : (f g : Shown → Told) (items : List Shown)
    → AllByRecursion (λ item. f item ≡ g item) items → map f items ≡ map g items
each_mapped f g [] are = refl
each_mapped f g (item ∷ items) are =
    ap (λ (told : Told). told ∷ map f items) are.0
    ∙ ap (λ (its : List Told). g item ∷ its) (each_mapped f g items are.1)

-- so the statements that the lines of a run tell are those of its items
module _ (count : ℕ) (phases : List (List Event)) (items : List Shown)
    (told : AllByRecursion (IsTold count) items) (follows : EachTwo Follows items)
    (came : AllByRecursion (λ item. event_numbered phases (its_maker item) ≡ item.event) items)
  where
    pub all_told : map (λ entry. statement_told phases (entries_in items) (maker_of entry))
        (telling_lines (entries_in items)) ≡ map told_item items
    all_told =
        told_once count (statement_told phases (entries_in items)) items told
        ∙ each_mapped (λ item. statement_told phases (entries_in items) (its_maker item))
        told_item items
        (each_weaker Each
        (λ item. statement_told phases (entries_in items) (its_maker item) ≡ told_item item)
        same items
        (each_both (λ item. event_numbered phases (its_maker item) ≡ item.event)
        (λ item. lines_by (its_maker item) (entries_in items) ≡ item.entries) items came
        (lines_again count items told follows)))
      where
        Each : Shown → Type 0
        Each item = (event_numbered phases (its_maker item) ≡ item.event)
            × (lines_by (its_maker item) (entries_in items) ≡ item.entries)

        same : (item : Shown) → Each item
            → statement_told phases (entries_in items) (its_maker item) ≡ told_item item
        same item its =
            ap (λ (event : Event). record {
              event = event;
              entries = lines_by (its_maker item) (entries_in items);
            }) its.0
            ∙ ap (λ (entries : List Entry). record { event = item.event; entries = entries }) its.1
