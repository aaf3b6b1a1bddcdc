-- A run of a section and the run of the same statements in the order of the merge.
use Rattle.std.proofs.Common.{◌≡◌, ◌≢◌, ◌<◌, ◌≤◌, ◌+◌, ◌-◌, ℕ, Bool, true, false, cond, nat_eq}
use Rattle.std.proofs.Common.{List, [], ◌∷◌, ◌++◌, filter, flat_map, length, map, refl, sym, ◌∙◌}
use Rattle.std.proofs.Common.{ap}
use Rattle.std.proofs.Common.{subst, arith, inl, inr}
use Rattle.std.proofs.lemmas.Bool.{ne_eqb}
use Rattle.std.proofs.lemmas.List.Elements.{filter-append}
use Rattle.std.specs.List.{AllByRecursion, range_with_len}
use Rattle.std.specs.Prelude.{IfSome, slice_index_or}
use Rattle.plain_lists.specs.EachTwo.{EachTwo}
use Rattle.profile_card.specs.Card.{Card}
use Rattle.record_codec.specs.IsDurable.{IsDurable}
use Rattle.record_codec.specs.declared.durable.Durable.{Durable}
use Rattle.card_core.proofs.ChangeLemmas.{either_order, item_lines, item_phase, item_ranks}
use Rattle.card_core.proofs.ChangeLemmas.{lines_either, may_swap, one_apart, order_runs}
use Rattle.card_core.proofs.ChangeLemmas.{shared_either}
use Rattle.card_core.proofs.ChangeLemmas.{shared_of}
use Rattle.card_core.proofs.FollowLemmas.{Follows, IsTold, comes_by, follow, its_maker, number_of}
use Rattle.card_core.proofs.FollowLemmas.{told}
use Rattle.card_core.proofs.GivesLemmas.{AllGive, OneQuiet, all_show, all_shown, one_quiet}
use Rattle.card_core.proofs.GivesLemmas.{order_give}
use Rattle.card_core.proofs.InstallsLemmas.{ShowsInstall, run_shown, run_shows}
use Rattle.card_core.proofs.LineLemmas.{telling_lines}
use Rattle.card_core.proofs.MergedLemmas.{merge_is, turns_within}
use Rattle.card_core.proofs.PhaseLemmas.{InPhases, in_phases, phase_from}
use Rattle.card_core.proofs.PhaseOrderLemmas.{KeepsBy, come_by_numbers, events_in, keeps_again}
use Rattle.card_core.proofs.PhaseOrderLemmas.{keeps_alike, picked, picked_either}
use Rattle.card_core.proofs.PlacedLemmas.{lines_sieved}
use Rattle.card_core.proofs.RankLemmas.{each_both, each_joined, each_two_both, each_two_with}
use Rattle.card_core.proofs.RankLemmas.{by_number, each_weaker, in_first_order, map_alike}
use Rattle.card_core.proofs.SeenLemmas.{fresh_at}
use Rattle.card_core.proofs.ShownLemmas.{IsFit, IsGood, MaySwap, Runs, Shown, ShowsRun, shown}
use Rattle.card_core.proofs.ShownLemmas.{shown_run, told_item}
use Rattle.card_core.proofs.ShownLemmas.{shows}
use Rattle.card_core.proofs.SortLemmas.{in_order, is_before, order_each, order_gives, ordered}
use Rattle.card_core.proofs.AloneRunLemmas.{told_alone}
use Rattle.card_core.proofs.SoundLemmas.{opened_sound}
use Rattle.card_core.proofs.StatementLemmas.{its_port}
use Rattle.card_core.proofs.ToldStepsLemmas.{IsNumbered, all_told, numbered, phases_at}
use Rattle.card_core.specs.Alone.{StartsAlone}
use Rattle.card_core.specs.Fed.{IsToldAlone}
use Rattle.card_core.specs.Merge.{ComeInPhases, ComesToPort, RunsAsMerged, event_numbered}
use Rattle.card_core.specs.Merge.{lanes_of, maker_of, makers_in}
use Rattle.card_core.specs.Merge.{merge, phase_at, shared_in, statement_told, steps_of}
use Rattle.card_core.specs.Merge.{was_shared}
use Rattle.card_core.specs.PortState.{PortState}
use Rattle.card_core.specs.Run.{IsOnCard}
use Rattle.card_core.specs.Sound.{HasSoundLoads, IsSoundLoad}
use Rattle.card_core.specs.Stepped.{AreSteps, Stepped}
use Rattle.card_core.specs.Stretch.{entries_of, is_for, lines_at, steps_at}
use Rattle.card_core.specs.Told.{Told, told_of}
use Rattle.card_core.specs.World.{WorldState, next_maker, opened, port_in}
use Rattle.card_core.specs.declared.entry.Entry.{Entry}
use Rattle.card_core.specs.declared.entry.Maker.{Maker}
use Rattle.card_core.specs.declared.event.Event.{Event}
use Rattle.card_core.specs.declared.event.Event.TheVariants as events

-- what is seen of steps is seen of what they show
pub events_shown : (came : List Event) (start : WorldState) (taken : List Stepped)
    (after : WorldState) → AreSteps start came taken after
    → map (λ item. item.event) (map shown taken) ≡ came
events_shown [] start taken after are =
    ap (λ (its : List Stepped). map (λ item. item.event) (map shown its)) are.0
events_shown (event ∷ came) start taken after are =
    ap (λ (its : List Stepped). map (λ item. item.event) (map shown its)) are.5
    ∙ ap (λ (rest : List Event). event ∷ rest)
    (events_shown came are.1.state are.2 after are.4)

entries_shown : (taken : List Stepped)
    → entries_of taken ≡ flat_map (λ item. item.entries) (map shown taken)
entries_shown [] = refl
entries_shown (step ∷ taken) =
    ap (λ (its : List Entry). step.made.entries ++ its) (entries_shown taken)

makers_are : (state : WorldState) (event : Event) → ComesToPort event
    → makers_in state event ≡ next_maker state (its_port event) ∷ []
makers_are state (events.Apdu port bytes) comes = refl
makers_are state (events.Reset port) comes = refl
makers_are state (events.Load port step) comes = refl
makers_are state events.Power comes = absurd comes

shared_shown : (taken : List Stepped)
    → AllByRecursion (λ item. ComesToPort item.event) (map shown taken)
    → flat_map shared_in taken ≡ flat_map shared_of (map shown taken)
shared_shown [] comes = refl
shared_shown (step ∷ taken) comes =
    ap (λ (its : List Maker). marked (was_shared step) its ++ flat_map shared_in taken)
    (makers_are step.before step.event comes.0)
    ∙ ap (λ (its : List Maker). shared_of (shown step) ++ its) (shared_shown taken comes.1)
  where
    marked : Bool → List Maker → List Maker
    marked here makers = cond here makers []

told_items : (taken : List Stepped) → map told_of taken ≡ map told_item (map shown taken)
told_items [] = refl
told_items (step ∷ taken) = ap (λ (its : List Told). told_of step ∷ its) (told_items taken)

-- what the items of a port show
module _ {X : Type 0} (f : Shown → X) where
  abbrev shown_at : ℕ → Shown → List X
  shown_at port item = cond (is_for port item.event) (f item ∷ []) []

  steps_shown : (port : ℕ) (taken : List Stepped)
      → map (λ step. f (shown step)) (steps_at port taken)
      ≡ flat_map (shown_at port) (map shown taken)
  steps_shown port [] = refl
  steps_shown port (step ∷ taken) = by (is_for port step.event) (steps_shown port taken)
    where
      by : (here : Bool)
          → map (λ step. f (shown step)) (steps_at port taken)
          ≡ flat_map (shown_at port) (map shown taken)
          → map (λ step. f (shown step))
          (cond here (step ∷ steps_at port taken) (steps_at port taken))
          ≡ cond here (f (shown step) ∷ []) [] ++ flat_map (shown_at port) (map shown taken)
      by true rest = ap (λ (its : List X). f (shown step) ∷ its) rest
      by false rest = rest

  not_shown : (port : ℕ) (item : Shown) → ComesToPort item.event → its_port item.event ≢ port
      → shown_at port item ≡ []
  not_shown port item comes apart =
      ap marked (comes_by port item.event comes
      ∙ ne_eqb port (its_port item.event) (λ same. apart (sym same)))
    where
      marked : Bool → List X
      marked here = cond here (f item ∷ []) []

  shown_either : (port : ℕ) (one other : Shown) → ComesToPort one.event → ComesToPort other.event
      → MaySwap one other
      → shown_at port one ++ shown_at port other ≡ shown_at port other ++ shown_at port one
  shown_either port one other comes also may =
      either_order (shown_at port one) (shown_at port other)
      (elim (one_apart port (its_port one.event) (its_port other.event) may.apart) [
        | inl away ↦ inl (not_shown port one comes away)
        | inr away ↦ inr (not_shown port other also away)
      ])

lines_flat : (port : ℕ) (items : List Shown)
    → lines_at port (flat_map (λ item. item.entries) items) ≡ flat_map (item_lines port) items
lines_flat port [] = refl
lines_flat port (item ∷ items) =
    filter-append (λ (entry : Entry). nat_eq entry.port port) item.entries
    (flat_map (λ item. item.entries) items)
    ∙ ap (λ (its : List Entry). item_lines port item ++ its) (lines_flat port items)

-- statements of phases come to ports
pub come_to_ports : (phases : List (List Event)) (came : List Event) → ComeInPhases phases came
    → AllByRecursion ComesToPort came
come_to_ports [] came none = subst (AllByRecursion ComesToPort) (sym none) tt
come_to_ports (phase ∷ phases) came come =
    subst (AllByRecursion ComesToPort) (sym come.2)
    (each_joined ComesToPort come.0 come.1 come.3.statements (come_to_ports phases come.1 come.4))

items_fit : (count : ℕ) (items : List Shown)
    → AllByRecursion ComesToPort (map (λ item. item.event) items)
    → AllByRecursion (IsOnCard count) (map (λ item. item.event) items)
    → AllByRecursion (IsFit count) items
items_fit count [] comes on = tt
items_fit count (item ∷ items) comes on =
    (record { comes = comes.0; on = on.0 }, items_fit count items comes.1 on.1)

items_on : (count : ℕ) (items : List Shown) → AllByRecursion (IsFit count) items
    → AllByRecursion (IsOnCard count) (events_in items)
items_on count [] fits = tt
items_on count (item ∷ items) fits = (fits.0.on, items_on count items fits.1)

pub opened_loads : (start : Durable) → HasSoundLoads (opened start)
opened_loads start port =
    subst (λ (its : PortState). IfSome its.load IsSoundLoad)
    (sym (fresh_at start.heads.ports.count port)) tt

module _ (phases : List (List Event)) (start : Durable) (came : List Event) (taken : List Stepped)
    (after : WorldState) (are : IsDurable start)
    (on : AllByRecursion (IsOnCard start.heads.ports.count) came)
    (come : ComeInPhases phases came) (steps : AreSteps (opened start) came taken after)
    (keep : AllByRecursion (λ step. IsDurable step.made.state.durable) taken) where
  abbrev count : ℕ
  count = start.heads.ports.count

  abbrev first : WorldState
  first = opened start

  abbrev items : List Shown
  items = map shown taken

  good : IsGood count first
  good = record { sound = opened_sound start are; ports = refl }

  runs : Runs first items after
  runs = shows came first taken after steps keep

  seen : map (λ item. item.event) items ≡ came
  seen = events_shown came first taken after steps

  fits : AllByRecursion (IsFit count) items
  fits =
      items_fit count items
      (subst (AllByRecursion ComesToPort) (sym seen) (come_to_ports phases came come))
      (subst (AllByRecursion (IsOnCard count)) (sym seen) on)

  all_come : AllByRecursion (λ item. ComesToPort item.event) items
  all_come =
      each_weaker (IsFit count) (λ item. ComesToPort item.event) (λ item fit. fit.comes) items fits

  -- phases are counted from the start on
  phase_is : (item : Shown) → phase_from phases first item ≡ item_phase phases item
  phase_is item =
      let fresh : (port_in first (its_port item.event)).statements ≡ 0 =
      ap (λ (its : PortState). its.statements) (fresh_at count (its_port item.event)) in
      let number : number_of item - (port_in first (its_port item.event)).statements
      ≡ number_of item = omega (arith, fresh) in
      ap (phase_at phases (its_port item.event)) number

  by_phase : InPhases phases first items
  by_phase =
      in_phases count phases items first after good fits runs
      (subst (ComeInPhases phases) (sym seen) come)

  abbrev PhaseMost : Shown → Shown → Type 0
  PhaseMost one other = item_phase phases one ≤ item_phase phases other

  phases_ascend : EachTwo PhaseMost items
  phases_ascend =
      each_two_with (λ item. Unit {0})
      (λ one other. phase_from phases first one ≤ phase_from phases first other) PhaseMost
      (λ one other is its most.
      let same = phase_is one in
      let alike = phase_is other in
      omega (arith, most, same, alike)) items
      (each_weaker (IsFit count) (λ item. Unit {0}) (λ item its. tt) items fits) by_phase.order

  phases_within : AllByRecursion (λ item. item_phase phases item < length phases) items
  phases_within =
      each_weaker (λ item. phase_from phases first item < length phases)
      (λ item. item_phase phases item < length phases)
      (λ item less. let same = phase_is item in omega (arith, less, same)) items by_phase.within

  abbrev Both : Shown → Type 0
  Both item = IsTold count item × IsFit count item

  both : AllByRecursion Both items
  both =
      each_both (IsTold count) (IsFit count) items (told count items first after good fits runs)
      fits

  abbrev Then : Shown → Shown → Type 0
  Then one other = Follows one other × PhaseMost one other

  then : EachTwo Then items
  then =
      each_two_both Follows PhaseMost items (follow count items first after good fits runs)
      phases_ascend

  -- what holds of two that change places
  changing : (R : Shown → Shown → Type 0)
      → ((one other : Shown) → Both one → Both other → Follows one other → MaySwap one other
      → other.turn ≡ one.turn → R one other)
      → EachTwo (λ one other. is_before (item_ranks phases) other one ≡ true → R one other) items
  changing R holds =
      each_two_with Both Then
      (λ one other. is_before (item_ranks phases) other one ≡ true → R one other)
      (λ one other its also so before.
      let swap = may_swap phases count one other its.0 also.0 so.0 so.1 before in
      holds one other its also so.0 swap.0 swap.1) items both then

  abbrev in_merge : List Shown
  in_merge = in_order (item_ranks phases) items

  merged_runs : Runs first in_merge after
  merged_runs =
      order_runs phases count items first after good fits
      (changing MaySwap (λ one other its also so may turn. may)) runs

  merged_fits : AllByRecursion (IsFit count) in_merge
  merged_fits = order_each (item_ranks phases) (IsFit count) items fits

  run : ShowsRun first in_merge after
  run = shown_run in_merge first after merged_runs

  -- the lines, ports and shared statements are those of the run as it was
  same_shared : flat_map shared_of in_merge ≡ flat_map shared_of items
  same_shared =
      order_gives (item_ranks phases) shared_of items
      (changing (λ one other. shared_of one ++ shared_of other ≡ shared_of other ++ shared_of one)
      (λ one other its also so may turn. shared_either one other may))

  same_lines : (port : ℕ) → flat_map (item_lines port) in_merge ≡ flat_map (item_lines port) items
  same_lines port =
      order_gives (item_ranks phases) (item_lines port) items
      (changing (λ one other. item_lines port one ++ item_lines port other
      ≡ item_lines port other ++ item_lines port one)
      (λ one other its also so may turn. lines_either one other may count port its.0 also.0))

  same_shown : {X : Type 0} (f : Shown → X) (port : ℕ)
      → map (λ step. f (shown step)) (steps_at port run.taken)
      ≡ map (λ step. f (shown step)) (steps_at port taken)
  same_shown f port =
      steps_shown f port run.taken
      ∙ ap (λ (its : List Shown). flat_map (shown_at f port) its) run.are
      ∙ order_gives (item_ranks phases) (shown_at f port) items
      (changing (λ one other. shown_at f port one ++ shown_at f port other
      ≡ shown_at f port other ++ shown_at f port one)
      (λ one other its also so may turn.
      shown_either f port one other its.1.comes also.1.comes may))
      ∙ sym (steps_shown f port taken)

  abbrev merged_lines : List Entry
  merged_lines = flat_map (λ item. item.entries) in_merge

  lanes_are : record {
    logs = map (λ port. lines_at port merged_lines) (range_with_len 0 count);
    shared = flat_map shared_of in_merge;
  } ≡ lanes_of count taken
  lanes_are =
      ap (λ (logs : List (List Entry)). record {
        logs = logs;
        shared = flat_map shared_of in_merge;
      }) (map_alike (λ port. lines_at port merged_lines) (λ port. lines_at port (entries_of taken))
      (λ port. lines_flat port in_merge ∙ same_lines port ∙ sym (lines_flat port items)
      ∙ ap (lines_at port) (sym (entries_shown taken))) (range_with_len 0 count))
      ∙ ap (λ (shared : List Maker). record {
        logs = map (λ port. lines_at port (entries_of taken)) (range_with_len 0 count);
        shared = shared;
      }) (same_shared ∙ sym (shared_shown taken all_come))

  merged_log : entries_of run.taken ≡ merge phases (lanes_of count taken)
  merged_log =
      entries_shown run.taken
      ∙ ap (λ (its : List Shown). flat_map (λ item. item.entries) its) run.are
      ∙ sym (lines_sieved phases count in_merge
      (told count in_merge first after good merged_fits merged_runs)
      (follow count in_merge first after good merged_fits merged_runs)
      (ordered (item_ranks phases) items)
      (order_each (item_ranks phases) (λ item. item_phase phases item < length phases) items
      phases_within)
      (each_weaker (λ item. item.turn ≤ 0 + length (flat_map shared_of in_merge))
      (λ item. item.turn ≤ length (flat_map shared_of in_merge))
      (λ item less. omega (arith, less)) in_merge
      (turns_within count in_merge first after good merged_fits merged_runs)))
      ∙ sym (merge_is phases (flat_map shared_of in_merge) count merged_lines)
      ∙ ap (merge phases) lanes_are

  merged_logs : (port : ℕ) → lines_at port (entries_of run.taken) ≡ lines_at port (entries_of taken)
  merged_logs port =
      ap (lines_at port) (entries_shown run.taken
      ∙ ap (λ (its : List Shown). flat_map (λ item. item.entries) its) run.are)
      ∙ lines_flat port in_merge ∙ same_lines port ∙ sym (lines_flat port items)
      ∙ ap (lines_at port) (sym (entries_shown taken))

  -- the phases come one after another
  keeps_phases : KeepsBy (item_phase phases) 0 phases in_merge
  keeps_phases =
      keeps_again (item_phase phases) items in_merge
      (λ n port. order_gives (item_ranks phases) (picked (item_phase phases) n port) items
      (changing (λ one other. picked (item_phase phases) n port one
      ++ picked (item_phase phases) n port other
      ≡ picked (item_phase phases) n port other ++ picked (item_phase phases) n port one)
      (λ one other its also so may turn.
      picked_either (item_phase phases) n port one other its.1.comes also.1.comes may))) 0 phases
      (keeps_alike (phase_from phases first) (item_phase phases) phase_is 0 phases items
      by_phase.keeps)

  merged_in_phases : ComeInPhases phases (events_in in_merge)
  merged_in_phases =
      subst (ComeInPhases phases)
      (ap events_in (by_number (item_phase phases) in_merge (length phases)
      (in_first_order (record { of = item_phase phases; below = 0 })
      (record { of = λ item. item.turn; below = 0 }
      ∷ record { of = λ item. item.next; below = 0 }
      ∷ record { of = λ item. its_port item.event; below = 0 } ∷ [])
      in_merge (ordered (item_ranks phases) items))
      (order_each (item_ranks phases) (λ item. item_phase phases item < length phases) items
      phases_within)))
      (come_by_numbers count (item_phase phases) in_merge merged_fits 0 phases keeps_phases)

  merged_phased : ComeInPhases phases run.events
  merged_phased =
      subst (ComeInPhases phases)
      (ap events_in (sym run.are) ∙ events_shown run.events first run.taken after run.came)
      merged_in_phases

  merged_on : AllByRecursion (IsOnCard count) run.events
  merged_on =
      subst (AllByRecursion (IsOnCard count))
      (ap events_in (sym run.are) ∙ events_shown run.events first run.taken after run.came)
      (items_on count in_merge merged_fits)

  -- the statements that the lanes tell
  merged_told : AllByRecursion (IsTold count) in_merge
  merged_told = told count in_merge first after good merged_fits merged_runs

  merged_follow : EachTwo Follows in_merge
  merged_follow = follow count in_merge first after good merged_fits merged_runs

  merged_numbered : AllByRecursion (λ item. event_numbered phases (its_maker item) ≡ item.event)
      in_merge
  merged_numbered =
      each_weaker (IsNumbered count first (events_in in_merge))
      (λ item. event_numbered phases (its_maker item) ≡ item.event)
      (λ item is.
      let fresh : (port_in first (its_port item.event)).statements ≡ 0 =
      ap (λ (its : PortState). its.statements) (fresh_at count (its_port item.event)) in
      let number : number_of item - 1
      ≡ item.here.statements - (port_in first (its_port item.event)).statements =
      omega (arith, fresh) in
      ap (λ (n : ℕ). slice_index_or (filter (is_for (its_port item.event))
      (flat_map (λ phase. phase) phases)) n events.Power) number
      ∙ ap (λ (came : List Event). slice_index_or came
      (item.here.statements - (port_in first (its_port item.event)).statements) events.Power)
      (sym (phases_at phases (events_in in_merge) merged_in_phases (its_port item.event)))
      ∙ is) in_merge (numbered count in_merge first after good merged_fits merged_runs)

  lanes_told : steps_of phases (lanes_of count taken) ≡ map told_of run.taken
  lanes_told =
      ap (λ (entries : List Entry). map (λ entry. statement_told phases entries (maker_of entry))
      (telling_lines entries))
      (sym merged_log ∙ entries_shown run.taken
      ∙ ap (λ (its : List Shown). flat_map (λ item. item.entries) its) run.are)
      ∙ all_told count phases in_merge merged_told merged_follow merged_numbered
      ∙ ap (map told_item) (sym run.are) ∙ sym (told_items run.taken)

  -- a profile that the run installs comes with the same content
  starts_alone : (profile : ℕ) (card : Card) → StartsAlone profile first taken card
      → StartsAlone profile first run.taken card
  starts_alone profile card alone = record {
    its = alone.its;
    installed = λ none.
        run_shown count profile card.content run.events first run.taken after good
        (come_to_ports phases run.events merged_phased) merged_on run.came run.durable
        (subst (AllByRecursion (ShowsInstall profile card.content)) (sym run.are)
        (order_each (item_ranks phases) (ShowsInstall profile card.content) items
        (run_shows count profile card.content came first taken after good
        (come_to_ports phases came come) on steps keep (alone.installed none))));
  }

  pub runs_as_merged : RunsAsMerged phases first taken after
  runs_as_merged = record {
    events = run.events;
    merged = run.taken;
    phased = merged_phased;
    came = run.came;
    log = merged_log;
    logs = merged_logs;
    ports = same_shown told_item;
    failed = same_shown (λ item. item.failed);
    shares = λ profile share shares.
        all_shown profile run.taken share
        (subst (λ (its : List Shown). AllGive profile its share) (sym run.are)
        (order_give profile phases items share
        (changing (OneQuiet profile) (λ one other its also so may turn.
        one_quiet profile count one other its.0 also.0 its.1.comes also.1.comes may
        (so.heads may.first turn)))
        (all_show profile taken share shares)));
    told = lanes_told;
    alone = λ profile card alone.
        subst (λ (its : List Told). IsToldAlone profile first run.taken its after)
        (sym lanes_told)
        (told_alone first run.events run.taken after good.sound merged_on run.came run.durable
        profile) card (starts_alone profile card alone);
  }
