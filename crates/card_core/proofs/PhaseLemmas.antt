-- The statements of a run stand in the order of their phases.
use Rattle.std.proofs.Common.{◌≡◌, ◌<◌, ◌≤◌, ◌+◌, ◌-◌, ℕ, Bool, cond, List, []}
use Rattle.std.proofs.Common.{◌∷◌, ◌++◌, filter, length, map, sym, ◌∙◌, ap, subst, arith}
use Rattle.std.proofs.lemmas.Bool.{le-leb, lt-leb}
use Rattle.std.specs.List.{AllByRecursion}
use Rattle.file_rows.proofs.ListLemmas.{each_left, each_right}
use Rattle.plain_lists.specs.EachTwo.{EachTwo}
use Rattle.card_core.proofs.FollowLemmas.{InParts, IsBehind, RunsInParts, behind, counted_in}
use Rattle.card_core.proofs.FollowLemmas.{number_of}
use Rattle.card_core.proofs.FollowLemmas.{parts, run_parts, within_end}
use Rattle.card_core.proofs.PhaseOrderLemmas.{KeepsBy, events_in, first_of_both, keeps_later}
use Rattle.card_core.proofs.RankLemmas.{each_is, each_joined, each_two_append, each_two_of}
use Rattle.card_core.proofs.RankLemmas.{each_two_with}
use Rattle.card_core.proofs.RankLemmas.{each_weaker}
use Rattle.card_core.proofs.ShownLemmas.{IsFit, IsGood, Runs, Shown, good_after}
use Rattle.card_core.proofs.StatementLemmas.{its_port}
use Rattle.card_core.specs.Merge.{ComeInPhases, phase_at}
use Rattle.card_core.specs.Stretch.{is_for}
use Rattle.card_core.specs.World.{WorldState, port_in}
use Rattle.card_core.specs.declared.event.Event.{Event}

-- the phase of an item, its number being counted from a card on
abbrev pub phase_from : List (List Event) → WorldState → Shown → ℕ
phase_from phases state item =
    phase_at phases (its_port item.event)
    (number_of item - (port_in state (its_port item.event)).statements)

pub record InPhases (phases : List (List Event)) (state : WorldState) (items : List Shown)
    : Type 0 where
  pub order : EachTwo (λ one other. phase_from phases state one ≤ phase_from phases state other)
      items
  pub within : AllByRecursion (λ item. phase_from phases state item < length phases) items
  pub keeps : KeepsBy (phase_from phases state) 0 phases items

in_first : (phase : List Event) (phases : List (List Event)) (port number : ℕ)
    → number ≤ length (filter (is_for port) phase) → phase_at (phase ∷ phases) port number ≡ 0
in_first phase phases port number few =
    ap (first_or (1 + phase_at phases port (number - length (filter (is_for port) phase))))
    (le-leb number (length (filter (is_for port) phase)) few)
  where
    first_or : ℕ → Bool → ℕ
    first_or rest here = cond here 0 rest

in_later : (phase : List Event) (phases : List (List Event)) (port number : ℕ)
    → length (filter (is_for port) phase) < number
    → phase_at (phase ∷ phases) port number
    ≡ 1 + phase_at phases port (number - length (filter (is_for port) phase))
in_later phase phases port number many =
    ap (first_or (1 + phase_at phases port (number - length (filter (is_for port) phase))))
    (lt-leb number (length (filter (is_for port) phase)) many)
  where
    first_or : ℕ → Bool → ℕ
    first_or rest here = cond here 0 rest

module _ (count : ℕ) where
  pub good_end : (items : List Shown) (state after : WorldState) → IsGood count state
      → AllByRecursion (IsFit count) items → Runs state items after → IsGood count after
  good_end [] state after good fit runs = subst (IsGood count) (sym runs) good
  good_end (item ∷ items) state after good fit runs =
      good_end items runs.0.state after (good_after count state item runs.0 good fit.0 runs.1)
      fit.1 runs.3

  -- one phase and then the others
  module _ (phase : List Event) (phases : List (List Event)) (front back : List Shown)
      (state between after : WorldState) (good : IsGood count state)
      (fit : AllByRecursion (IsFit count) front) (rest_fit : AllByRecursion (IsFit count) back)
      (runs : Runs state front between) (rest_runs : Runs between back after)
      (keeps : (port : ℕ)
      → filter (is_for port) (map (λ item. item.event) front) ≡ filter (is_for port) phase)
      (rest : InPhases phases between back) where
    abbrev its : Shown → ℕ
    its = phase_from (phase ∷ phases) state

    counted_there : (port : ℕ) → (port_in between port).statements
        ≡ (port_in state port).statements + length (filter (is_for port) phase)
    counted_there port =
        counted_in count front state between good fit runs port
        ∙ ap (λ (events : List Event). (port_in state port).statements + length events)
        (keeps port)

    first_is : AllByRecursion (λ item. its item ≡ 0) front
    first_is =
        each_weaker
        (λ item. item.here.statements < (port_in between (its_port item.event)).statements)
        (λ item. its item ≡ 0)
        (λ item less.
        let there = counted_there (its_port item.event) in
        in_first phase phases (its_port item.event)
        (number_of item - (port_in state (its_port item.event)).statements)
        (omega (arith, less, there))) front (within_end count front state between good fit runs)

    later_is : AllByRecursion (λ item. its item ≡ 1 + phase_from phases between item) back
    later_is =
        each_weaker (IsBehind between) (λ item. its item ≡ 1 + phase_from phases between item)
        (λ item more.
        let port : ℕ = its_port item.event in
        let there = counted_there port in
        let number : (port_in between port).statements ≤ item.here.statements = more.number in
        let left : (number_of item - (port_in state port).statements)
        - length (filter (is_for port) phase)
        ≡ number_of item - (port_in between port).statements =
        omega (arith, there, number) in
        in_later phase phases port (number_of item - (port_in state port).statements)
        (omega (arith, there, number))
        ∙ ap (λ (n : ℕ). 1 + phase_at phases port n) left) back
        (behind count back between after
        (good_end front state between good fit runs) rest_fit rest_runs)

    abbrev BeforeOrBeside : Shown → Shown → Type 0
    BeforeOrBeside one other = its one ≤ its other

    back_order : EachTwo BeforeOrBeside back
    back_order =
        each_two_with (λ item. its item ≡ 1 + phase_from phases between item)
        (λ one other. phase_from phases between one ≤ phase_from phases between other)
        BeforeOrBeside (λ one other is other_is less. omega (arith, is, other_is, less)) back
        later_is rest.order

    both_in_phases : InPhases (phase ∷ phases) state (front ++ back)
    both_in_phases = record {
      order = each_two_append BeforeOrBeside front back
          (each_two_of (λ item. its item ≡ 0) BeforeOrBeside
          (λ one other is other_is. omega (arith, is, other_is)) front first_is)
          back_order
          (each_weaker (λ item. its item ≡ 0) (λ one. AllByRecursion (BeforeOrBeside one) back)
          (λ one is. each_is (BeforeOrBeside one) (λ other. omega (arith, is)) back) front
          first_is);
      within = each_joined (λ item. its item < length (phase ∷ phases)) front back
          (each_weaker (λ item. its item ≡ 0) (λ item. its item < length (phase ∷ phases))
          (λ item is. omega (arith, is)) front first_is)
          (within_back back later_is rest.within);
      keeps = (
        λ port. ap (λ (items : List Shown). filter (is_for port) (events_in items))
            (first_of_both its (phase_from phases between) front back first_is later_is)
            ∙ keeps port,
        keeps_later its (phase_from phases between) front back first_is later_is 0 phases
            rest.keeps,
      );
    }
      where
        within_back : (items : List Shown)
            → AllByRecursion (λ item. its item ≡ 1 + phase_from phases between item) items
            → AllByRecursion (λ item. phase_from phases between item < length phases) items
            → AllByRecursion (λ item. its item < length (phase ∷ phases)) items
        within_back [] are below = tt
        within_back (item ∷ items) are below =
            let is : its item ≡ 1 + phase_from phases between item = are.0 in
            let less : phase_from phases between item < length phases = below.0 in
            (omega (arith, is, less), within_back items are.1 below.1)

  pub in_phases : (phases : List (List Event)) (items : List Shown) (state after : WorldState)
      → IsGood count state → AllByRecursion (IsFit count) items → Runs state items after
      → ComeInPhases phases (map (λ item. item.event) items) → InPhases phases state items
  in_phases [] [] state after good fit runs come =
      record { order = tt; within = tt; keeps = tt }
  in_phases [] (item ∷ items) state after good fit runs come = absurd cc
  in_phases (phase ∷ phases) items state after good fit runs come =
      let split : InParts (λ item. item.event) items come.0 come.1 =
      parts (λ item. item.event) come.0 come.1 items come.2 in
      let all_fit : AllByRecursion (IsFit count) (split.front ++ split.back) =
      subst (AllByRecursion (IsFit count)) split.are fit in
      let two : RunsInParts state split.front split.back after =
      run_parts split.front split.back state after
      (subst (λ (its : List Shown). Runs state its after) split.are runs) in
      let front_fit = each_left (IsFit count) split.front split.back all_fit in
      let back_fit = each_right (IsFit count) split.front split.back all_fit in
      subst (InPhases (phase ∷ phases) state) (sym split.are)
      (both_in_phases phase phases split.front split.back state two.between after good front_fit
      back_fit two.first two.rest
      (λ port. ap (filter (is_for port)) split.first_seen ∙ come.3.ports port)
      (in_phases phases split.back two.between after
      (good_end split.front state two.between good front_fit two.first) back_fit two.rest
      (subst (ComeInPhases phases) (sym split.rest_seen) come.4)))
