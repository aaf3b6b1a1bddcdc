-- What follows what in a run: turns, the numbers of the statements at a port, and phases.
use Rattle.std.proofs.Common.{◌≡◌, ◌⊎◌, ◌<◌, ◌≤◌, ◌+◌, ℕ, Bool, true, false, cond, nat_eq, List}
use Rattle.std.proofs.Common.{[], ◌∷◌, ◌++◌, filter, length, map, refl, sym, ◌∙◌, ap, subst, arith}
use Rattle.std.proofs.Common.{inl}
use Rattle.std.proofs.Common.{inr, eqb-true, Some, None, slice_index_or}
use Rattle.std.proofs.lemmas.Bool.{eq-eqb, eqb-false, ne_eqb}
use Rattle.std.specs.List.{AllByRecursion}
use Rattle.plain_lists.specs.EachTwo.{EachTwo}
use Rattle.card_core.proofs.AloneLemmas.{one_port}
use Rattle.card_core.proofs.LocalLemmas.{IsLocal, IsOwnLine}
use Rattle.card_core.proofs.RankLemmas.{AtMost, each_weaker}
use Rattle.card_core.proofs.ShownLemmas.{IsFit, IsGood, Runs, Shown, good_after, made_there}
use Rattle.card_core.proofs.ShownLemmas.{shown_of}
use Rattle.card_core.proofs.ShownLemmas.{local_there, unshared_at}
use Rattle.card_core.proofs.StatementLemmas.{IsLineOf, IsStatementMade, its_port}
use Rattle.card_core.proofs.LineLemmas.{own_first, telling_lines}
use Rattle.card_core.specs.Merge.{ComesToPort, maker_of}
use Rattle.card_core.specs.Stretch.{is_for}
use Rattle.card_core.specs.World.{Made, WorldState, count_if, port_in}
use Rattle.card_core.specs.declared.entry.Entry.{Entry}
use Rattle.card_core.specs.declared.entry.Line.{Line}
use Rattle.card_core.specs.declared.entry.Maker.{Maker}
use Rattle.card_core.specs.declared.event.Event.{Event}
use Rattle.card_core.specs.declared.event.Event.TheVariants as events

-- the number of an item's statement at its port
abbrev pub number_of : Shown → ℕ
number_of item = item.here.statements + 1

abbrev pub its_maker : Shown → Maker
its_maker item = record { port = its_port item.event; number = number_of item }

-- a line of an item
pub record IsItemLine (count : ℕ) (item : Shown) (entry : Entry) : Type 0 where
  pub turn : entry.turn ≡ item.turn
  pub maker : maker_of entry ≡ its_maker item
  pub within : entry.port < count

-- it has one line, which is its own
pub record HasOneLine (item : Shown) : Type 0 where
  pub line : Line
  pub are : item.entries
      ≡ record { turn = item.turn; port = its_port item.event; line = line } ∷ []
  pub own : IsOwnLine (number_of item) line

-- the lines of an item are its own, in order; where no shared statement made it it has one. No
-- profile stands on two ports
pub record IsTold (count : ℕ) (item : Shown) : Type 0 where
  pub lines : AllByRecursion (IsItemLine count item) item.entries
  pub order : EachTwo (AtMost (own_first (its_port item.event))) item.entries
  pub shared : ((item.next ≡ item.turn) × HasOneLine item) ⊎ (item.next ≡ item.turn + 1)
  pub tells : (one : Entry) × (telling_lines item.entries ≡ one ∷ [])
  pub once : (profile one other : ℕ)
      → slice_index_or item.heads.ports.on one None ≡ Some profile
      → slice_index_or item.heads.ports.on other None ≡ Some profile → one ≡ other

-- an item that a card comes to
pub record IsBehind (state : WorldState) (item : Shown) : Type 0 where
  pub turn : state.shared ≤ item.turn
  pub number : (port_in state (its_port item.event)).statements ≤ item.here.statements
  pub heads : item.turn ≡ state.shared → item.heads ≡ state.durable.heads

-- an item behind another
pub record Follows (one other : Shown) : Type 0 where
  pub turn : one.next ≤ other.turn
  pub number : its_port one.event ≡ its_port other.event
      → one.here.statements < other.here.statements
  pub heads : one.next ≡ one.turn → other.turn ≡ one.turn → other.heads ≡ one.heads

eq_swapped : (a b : ℕ) → nat_eq a b ≡ nat_eq b a
eq_swapped a b = by (nat_eq b a) refl
  where
    by : (same : Bool) → nat_eq b a ≡ same → nat_eq a b ≡ same
    by true is = eq-eqb a b (sym (eqb-true b a is))
    by false is = ne_eqb a b (λ equal. eqb-false b a is (sym equal))

pub comes_by : (port : ℕ) (event : Event) → ComesToPort event
    → is_for port event ≡ nat_eq port (its_port event)
comes_by port (events.Apdu came bytes) comes = eq_swapped came port
comes_by port (events.Reset came) comes = eq_swapped came port
comes_by port (events.Load came step) comes = eq_swapped came port
comes_by port events.Power comes = absurd comes

one_told : (count : ℕ) (state : WorldState) (event : Event) (failed : Bool) (made : Made)
    → IsGood count state → IsStatementMade (its_port event) state made
    → (made.state.shared ≡ state.shared → IsLocal (its_port event) state event failed made)
    → IsTold count (shown_of state event failed made)
one_told count state event failed made good its own = record {
  lines = each_weaker (IsLineOf (its_port event) state)
      (IsItemLine count (shown_of state event failed made))
      (λ entry line. record {
        turn = line.turn;
        maker = line.maker;
        within = let below : entry.port < state.durable.heads.ports.count = line.within in
            let is : state.durable.heads.ports.count ≡ count = good.ports in
            omega (arith, below, is);
      }) made.entries its.lines;
  order = its.order;
  shared = elim its.shared [
    | inl same ↦ inl (
      same,
      record {
        line = (own same).its.line;
        are = ap (λ (one : Made). one.entries) (own same).is;
        own = (own same).own;
      },
    )
    | inr more ↦ inr more
  ];
  tells = its.tells;
  once = one_port state.durable good.sound.are;
}

module _ (count : ℕ) where
  module _ (state : WorldState) (item : Shown) (items : List Shown) (after : WorldState)
      (good : IsGood count state) (fit : IsFit count item)
      (runs : Runs state (item ∷ items) after) where
    abbrev pub made_of : Made
    made_of = runs.0

    pub then_good : IsGood count made_of.state
    then_good = good_after count state item made_of good fit runs.1

    pub is_made : IsStatementMade (its_port item.event) state made_of
    is_made = made_there count state item made_of good fit runs.1.0

    pub turn_is : item.turn ≡ state.shared
    turn_is = ap (λ (its : Shown). its.turn) runs.2

    pub next_is : item.next ≡ made_of.state.shared
    next_is = ap (λ (its : Shown). its.next) runs.2

    pub heads_are : item.heads ≡ state.durable.heads
    heads_are = ap (λ (its : Shown). its.heads) runs.2

    pub here_is : item.here.statements ≡ (port_in state (its_port item.event)).statements
    here_is = ap (λ (its : Shown). its.here.statements) runs.2

    -- the heads stay where the count of shared statements does
    pub heads_stay : made_of.state.shared ≡ state.shared
        → made_of.state.durable.heads ≡ state.durable.heads
    heads_stay same = (unshared_at count state item made_of good fit runs.1.0 same).heads

    pub shared_more : state.shared ≤ made_of.state.shared
    shared_more = elim is_made.shared [
      | inl same ↦ omega (arith, same)
      | inr more ↦ omega (arith, more)
    ]

  pub behind : (items : List Shown) (state after : WorldState) → IsGood count state
      → AllByRecursion (IsFit count) items → Runs state items after
      → AllByRecursion (IsBehind state) items
  behind [] state after good fit runs = tt
  behind (item ∷ items) state after good fit runs = (
    record {
      turn = let is : item.turn ≡ state.shared =
          turn_is state item items after good fit.0 runs in omega (arith, is);
      number = let is : item.here.statements ≡ (port_in state (its_port item.event)).statements =
          here_is state item items after good fit.0 runs in omega (arith, is);
      heads = λ same. heads_are state item items after good fit.0 runs;
    },
    each_weaker (IsBehind runs.0.state) (IsBehind state)
        (λ one its. record {
          turn = let more : state.shared ≤ runs.0.state.shared =
              shared_more state item items after good fit.0 runs in
              let rest : runs.0.state.shared ≤ one.turn = its.turn in omega (arith, more, rest);
          number = let counts : (port_in runs.0.state (its_port one.event)).statements
              ≡ (port_in state (its_port one.event)).statements
              + count_if (nat_eq (its_port one.event) (its_port item.event)) =
              (is_made state item items after good fit.0 runs).counts (its_port one.event) in
              let rest : (port_in runs.0.state (its_port one.event)).statements
              ≤ one.here.statements = its.number in omega (arith, counts, rest);
          heads = λ same.
              let more : state.shared ≤ runs.0.state.shared =
              shared_more state item items after good fit.0 runs in
              let rest : runs.0.state.shared ≤ one.turn = its.turn in
              let stays : runs.0.state.shared ≡ state.shared = omega (arith, more, rest, same) in
              its.heads (same ∙ sym stays)
              ∙ heads_stay state item items after good fit.0 runs stays;
        }) items
        (behind items runs.0.state after (then_good state item items after good fit.0 runs) fit.1
        runs.3),
  )

  -- in a run each item follows those before it
  pub follow : (items : List Shown) (state after : WorldState) → IsGood count state
      → AllByRecursion (IsFit count) items → Runs state items after → EachTwo Follows items
  follow [] state after good fit runs = tt
  follow (item ∷ items) state after good fit runs = (
    each_weaker (IsBehind runs.0.state) (Follows item)
        (λ one its. record {
          turn = let is : item.next ≡ runs.0.state.shared =
              next_is state item items after good fit.0 runs in
              let rest : runs.0.state.shared ≤ one.turn = its.turn in omega (arith, is, rest);
          number = λ same.
              let counts : (port_in runs.0.state (its_port one.event)).statements
              ≡ (port_in state (its_port one.event)).statements
              + count_if (nat_eq (its_port one.event) (its_port item.event)) =
              (is_made state item items after good fit.0 runs).counts (its_port one.event) in
              let once : count_if (nat_eq (its_port one.event) (its_port item.event)) ≡ 1 =
              ap count_if (eq-eqb (its_port one.event) (its_port item.event) (sym same)) in
              let is : item.here.statements ≡ (port_in state (its_port one.event)).statements =
              here_is state item items after good fit.0 runs
              ∙ ap (λ (n : ℕ). (port_in state n).statements) same in
              let rest : (port_in runs.0.state (its_port one.event)).statements
              ≤ one.here.statements = its.number in omega (arith, counts, once, is, rest);
          heads = λ unshared same.
              let before : item.turn ≡ state.shared =
              turn_is state item items after good fit.0 runs in
              let then : item.next ≡ runs.0.state.shared =
              next_is state item items after good fit.0 runs in
              let stays : runs.0.state.shared ≡ state.shared =
              omega (arith, before, then, unshared) in
              its.heads (same ∙ before ∙ sym stays)
              ∙ heads_stay state item items after good fit.0 runs stays
              ∙ sym (heads_are state item items after good fit.0 runs);
        }) items
        (behind items runs.0.state after now fit.1 runs.3),
    follow items runs.0.state after now fit.1 runs.3,
  )
    where
      now : IsGood count runs.0.state
      now = then_good state item items after good fit.0 runs

  -- the lines of the items of a run
  pub told : (items : List Shown) (state after : WorldState) → IsGood count state
      → AllByRecursion (IsFit count) items → Runs state items after
      → AllByRecursion (IsTold count) items
  told [] state after good fit runs = tt
  told (item ∷ items) state after good fit runs = (
    subst (IsTold count) (sym runs.2)
        (one_told count state item.event item.failed runs.0 good
        (is_made state item items after good fit.0 runs)
        (local_there count state item runs.0 good fit.0 runs.1.0)),
    told items runs.0.state after (then_good state item items after good fit.0 runs) fit.1 runs.3,
  )

  -- how many statements come to a port in a run
  pub counted_in : (items : List Shown) (state after : WorldState) → IsGood count state
      → AllByRecursion (IsFit count) items → Runs state items after → (port : ℕ)
      → (port_in after port).statements ≡ (port_in state port).statements
      + length (filter (is_for port) (map (λ item. item.event) items))
  counted_in [] state after good fit runs port =
      let none : (port_in state port).statements ≡ (port_in state port).statements + 0 =
      omega arith in
      ap (λ (its : WorldState). (port_in its port).statements) runs ∙ none
  counted_in (item ∷ items) state after good fit runs port =
      let rest : (port_in after port).statements ≡ (port_in runs.0.state port).statements
      + length (filter (is_for port) (map (λ item. item.event) items)) =
      counted_in items runs.0.state after (then_good state item items after good fit.0 runs) fit.1
      runs.3 port in
      let counts : (port_in runs.0.state port).statements ≡ (port_in state port).statements
      + count_if (nat_eq port (its_port item.event)) =
      (is_made state item items after good fit.0 runs).counts port in
      let here : length (filter (is_for port) (map (λ item. item.event) (item ∷ items)))
      ≡ count_if (nat_eq port (its_port item.event))
      + length (filter (is_for port) (map (λ item. item.event) items)) =
      counted_first item items port fit.0 in
      omega (arith, rest, counts, here)
    where
      counted_first : (item : Shown) (items : List Shown) (port : ℕ) → IsFit count item
          → length (filter (is_for port) (map (λ one. one.event) (item ∷ items)))
          ≡ count_if (nat_eq port (its_port item.event))
          + length (filter (is_for port) (map (λ one. one.event) items))
      counted_first item items port fit =
          by (is_for port item.event) (comes_by port item.event fit.comes)
        where
          by : (here : Bool) → here ≡ nat_eq port (its_port item.event)
              → length (cond here (item.event ∷ filter (is_for port) (map (λ one. one.event) items))
              (filter (is_for port) (map (λ one. one.event) items)))
              ≡ count_if (nat_eq port (its_port item.event))
              + length (filter (is_for port) (map (λ one. one.event) items))
          by true is =
              let once : count_if (nat_eq port (its_port item.event)) ≡ 1 = ap count_if (sym is) in
              omega (arith, once)
          by false is =
              let none : count_if (nat_eq port (its_port item.event)) ≡ 0 = ap count_if (sym is) in
              omega (arith, none)

  -- each item's number is counted at the end
  pub within_end : (items : List Shown) (state after : WorldState) → IsGood count state
      → AllByRecursion (IsFit count) items → Runs state items after
      → AllByRecursion (λ item. item.here.statements
      < (port_in after (its_port item.event)).statements) items
  within_end [] state after good fit runs = tt
  within_end (item ∷ items) state after good fit runs =
      let port : ℕ = its_port item.event in
      let now : IsGood count runs.0.state = then_good state item items after good fit.0 runs in
      let rest : (port_in after port).statements ≡ (port_in runs.0.state port).statements
      + length (filter (is_for port) (map (λ one. one.event) items)) =
      counted_in items runs.0.state after now fit.1 runs.3 port in
      let counts : (port_in runs.0.state port).statements ≡ (port_in state port).statements
      + count_if (nat_eq port (its_port item.event)) =
      (is_made state item items after good fit.0 runs).counts port in
      let once : count_if (nat_eq port (its_port item.event)) ≡ 1 =
      ap count_if (eq-eqb port port refl) in
      let is : item.here.statements ≡ (port_in state port).statements =
      here_is state item items after good fit.0 runs in (
        omega (arith, rest, counts, once, is),
        within_end items runs.0.state after now fit.1 runs.3,
      )

-- a list in two parts by what is seen of it
pub record InParts {X Y : Type 0} (see : X → Y) (xs : List X) (first rest : List Y) : Type 0 where
  pub front : List X
  pub back : List X
  pub are : xs ≡ front ++ back
  pub first_seen : map see front ≡ first
  pub rest_seen : map see back ≡ rest

pub parts : {X Y : Type 0} (see : X → Y) (first rest : List Y) (xs : List X)
    → map see xs ≡ first ++ rest → InParts see xs first rest
parts see [] rest xs is =
    record { front = []; back = xs; are = refl; first_seen = refl; rest_seen = is }
parts see (y ∷ first) rest [] is = absurd cc
parts {X} {Y} see (y ∷ first) rest (x ∷ xs) is =
    let its : InParts see xs first rest = parts see first rest xs (cc) in
    let same : see x ≡ y = cc in
    record {
      front = x ∷ its.front;
      back = its.back;
      are = ap (λ (others : List X). x ∷ others) its.are;
      first_seen = ap (λ (one : Y). one ∷ map see its.front) same
          ∙ ap (λ (others : List Y). y ∷ others) its.first_seen;
      rest_seen = its.rest_seen;
    }

-- a run in two parts
pub record RunsInParts (state : WorldState) (front back : List Shown) (after : WorldState)
    : Type 0 where
  pub between : WorldState
  pub first : Runs state front between
  pub rest : Runs between back after

pub run_parts : (front back : List Shown) (state after : WorldState)
    → Runs state (front ++ back) after
    → RunsInParts state front back after
run_parts [] back state after runs = record { between = state; first = refl; rest = runs }
run_parts (item ∷ front) back state after runs =
    let its : RunsInParts runs.0.state front back after =
    run_parts front back runs.0.state after runs.3 in
    record {
      between = its.between;
      first = (runs.0, runs.1, runs.2, its.first);
      rest = its.rest;
    }
