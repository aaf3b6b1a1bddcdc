-- Runs by what their steps show, and neighbours in them that change places.
use Rattle.std.proofs.Common.{◌≡◌, ◌≢◌, ◌+◌, ℕ, Bool, true, List, [], ◌∷◌, map, length, refl, sym}
use Rattle.std.proofs.Common.{◌∙◌, ap, subst, arith}
use Rattle.std.proofs.lemmas.Bool.{eq-eqb}
use Rattle.std.specs.List.{AllByRecursion}
use Rattle.record_codec.specs.IsDurable.{IsDurable}
use Rattle.record_codec.specs.declared.durable.Heads.{Heads}
use Rattle.card_core.proofs.AloneRunLemmas.{happens_keeps}
use Rattle.card_core.proofs.CountedLemmas.{counted_local}
use Rattle.card_core.proofs.LocalLemmas.{IsLocal}
use Rattle.card_core.proofs.NeighbourLemmas.{Changed, places_change_counted}
use Rattle.card_core.proofs.SoundLemmas.{happens_sound, sound_card}
use Rattle.card_core.proofs.StatementLemmas.{IsStatementMade, its_port, statement_made}
use Rattle.card_core.proofs.StretchLemmas.{local_stays}
use Rattle.card_core.specs.Merge.{ComesToPort}
use Rattle.card_core.specs.PortState.{PortState}
use Rattle.card_core.specs.Run.{IsOnCard}
use Rattle.card_core.specs.Sound.{IsSoundState}
use Rattle.card_core.specs.Stepped.{AreSteps, Happens, Stepped}
use Rattle.card_core.specs.Stretch.{ChangePlaces, IsMadeAt, is_for}
use Rattle.card_core.specs.Told.{Told}
use Rattle.card_core.specs.World.{Made, WorldState, port_in}
use Rattle.card_core.specs.declared.entry.Entry.{Entry}
use Rattle.card_core.specs.declared.event.Event.{Event}
use Rattle.card_core.specs.declared.event.Event.TheVariants as events

-- what a step shows: what came and what it told, and of the card the heads, what stood at its port,
-- and how many shared statements there were before and after it
pub record Shown : Type 0 where
  pub event : Event
  pub failed : Bool
  pub entries : List Entry
  pub heads : Heads
  pub here : PortState
  pub turn : ℕ
  pub next : ℕ

abbrev pub shown_of : WorldState → Event → Bool → Made → Shown
shown_of state event failed made = record {
  event = event;
  failed = failed;
  entries = made.entries;
  heads = state.durable.heads;
  here = port_in state (its_port event);
  turn = state.shared;
  next = made.state.shared;
}

-- what is told of it
abbrev pub told_item : Shown → Told
told_item item = record { event = item.event; entries = item.entries }

abbrev pub shown : Stepped → Shown
shown step = shown_of step.before step.event step.failed step.made

-- what an item comes to keeps what a card may
abbrev pub Becomes : WorldState → Shown → Made → Type 0
Becomes state item made =
    Happens item.failed state item.event made × IsDurable made.state.durable

-- the card that shows this comes to that one
abbrev pub Runs : WorldState → List Shown → WorldState → Type 0
Runs state [] after = after ≡ state
Runs state (item ∷ items) after =
    (made : Made) × Becomes state item made
    × (item ≡ shown_of state item.event item.failed made) × Runs made.state items after

pub shows : (came : List Event) (start : WorldState) (taken : List Stepped) (after : WorldState)
    → AreSteps start came taken after
    → AllByRecursion (λ step. IsDurable step.made.state.durable) taken
    → Runs start (map shown taken) after
shows [] start taken after are keep =
    subst (λ (its : List Stepped). Runs start (map shown its) after) (sym are.0) are.1
shows (event ∷ came) start taken after are keep =
    let each = subst (AllByRecursion (λ step. IsDurable step.made.state.durable)) are.5 keep in
    subst (λ (its : List Stepped). Runs start (map shown its) after) (sym are.5)
    (are.1, (are.3, each.0), refl, shows came are.1.state are.2 after are.4 each.1)

-- a run that shows this
pub record ShowsRun (start : WorldState) (items : List Shown) (after : WorldState) : Type 0 where
  pub events : List Event
  pub taken : List Stepped
  pub came : AreSteps start events taken after
  pub are : map shown taken ≡ items
  pub durable : AllByRecursion (λ step. IsDurable step.made.state.durable) taken

pub shown_run : (items : List Shown) (start after : WorldState) → Runs start items after
    → ShowsRun start items after
shown_run [] start after runs =
    record { events = []; taken = []; came = (refl, runs); are = refl; durable = tt }
shown_run (item ∷ items) start after runs =
    let rest : ShowsRun runs.0.state items after =
    shown_run items runs.0.state after runs.3 in
    let step : Stepped = record {
      before = start;
      event = item.event;
      failed = item.failed;
      made = runs.0;
    } in
    record {
      events = item.event ∷ rest.events;
      taken = step ∷ rest.taken;
      came = (item.failed, runs.0, rest.taken, runs.1.0, rest.came, refl);
      are = ap (λ (its : Shown). its ∷ map shown rest.taken) (sym runs.2)
          ∙ ap (λ (its : List Shown). item ∷ its) rest.are;
      durable = (runs.1.1, rest.durable);
    }

-- a card on which statements may come
pub record IsGood (count : ℕ) (state : WorldState) : Type 0 where
  pub sound : IsSoundState state
  pub ports : state.durable.heads.ports.count ≡ count

-- what comes in an item is a statement at a port of the card
pub record IsFit (count : ℕ) (item : Shown) : Type 0 where
  pub comes : ComesToPort item.event
  pub on : IsOnCard count item.event

abbrev pub IsShared : Shown → Type 0
IsShared item = item.next ≡ item.turn + 1

-- an item with which the count of shared statements stays, and another one at another port
pub record MaySwap (one other : Shown) : Type 0 where
  pub first : one.next ≡ one.turn
  pub second : other.next ≡ other.turn
  pub apart : its_port one.event ≢ its_port other.event

pub comes_there : (event : Event) → ComesToPort event → is_for (its_port event) event ≡ true
comes_there (events.Apdu port bytes) comes = eq-eqb port port refl
comes_there (events.Reset port) comes = eq-eqb port port refl
comes_there (events.Load port step) comes = eq-eqb port port refl
comes_there events.Power comes = absurd comes

module _ (count : ℕ) where
  on_it : (state : WorldState) (item : Shown) → IsGood count state → IsFit count item
      → IsOnCard state.durable.heads.ports.count item.event
  on_it state item good fit = subst (λ (n : ℕ). IsOnCard n item.event) (sym good.ports) fit.on

  -- the card after a statement is such a one
  pub good_after : (state : WorldState) (item : Shown) (made : Made) → IsGood count state
      → IsFit count item → Becomes state item made → IsGood count made.state
  good_after state item made good fit becomes =
      let sound : IsSoundState made.state =
      happens_sound state good.sound item.failed item.event made (on_it state item good fit)
      becomes.0 becomes.1 in
      record {
        sound = sound;
        ports =
            let places : length made.state.ports ≡ length state.ports =
            (happens_keeps state good.sound item.failed item.event made
            (on_it state item good fit) becomes.0).places in
            let now : length made.state.ports ≡ made.state.durable.heads.ports.count =
            sound.count in
            let before : length state.ports ≡ state.durable.heads.ports.count =
            good.sound.count in
            let is : state.durable.heads.ports.count ≡ count = good.ports in
            omega (arith, places, now, before, is);
      }

  pub made_there : (state : WorldState) (item : Shown) (made : Made) → IsGood count state
      → IsFit count item → Happens item.failed state item.event made
      → IsStatementMade (its_port item.event) state made
  made_there state item made good fit happens =
      statement_made state good.sound item.failed item.event made fit.comes
      (on_it state item good fit) happens

  -- a statement with which the count of shared ones stays
  pub local_there : (state : WorldState) (item : Shown) (made : Made) → IsGood count state
      → IsFit count item → Happens item.failed state item.event made
      → made.state.shared ≡ state.shared
      → IsLocal (its_port item.event) state item.event item.failed made
  local_there state item made good fit happens same =
      counted_local (its_port item.event) state (sound_card state good.sound (its_port item.event))
      item.failed item.event made (comes_there item.event fit.comes) happens same

  pub unshared_at : (state : WorldState) (item : Shown) (made : Made) → IsGood count state
      → IsFit count item → Happens item.failed state item.event made
      → made.state.shared ≡ state.shared → IsMadeAt (its_port item.event) state made
  unshared_at state item made good fit happens same =
      local_stays (its_port item.event) state good.sound item.event item.failed made
      (local_there state item made good fit happens same)

  module _ (state : WorldState) (one other : Shown) (rest : List Shown) (after : WorldState)
      (good : IsGood count state) (fit : IsFit count one) (its_fit : IsFit count other)
      (may : MaySwap one other) (runs : Runs state (one ∷ other ∷ rest) after) where
    abbrev port : ℕ
    port = its_port one.event

    abbrev neighbour : ℕ
    neighbour = its_port other.event

    abbrev made : Made
    made = runs.0

    abbrev then_made : Made
    then_made = runs.3.0

    stays : made.state.shared ≡ state.shared
    stays =
        ap (λ (its : Shown). its.next) (sym runs.2) ∙ may.first
        ∙ ap (λ (its : Shown). its.turn) runs.2

    then_stays : then_made.state.shared ≡ made.state.shared
    then_stays =
        ap (λ (its : Shown). its.next) (sym runs.3.2) ∙ may.second
        ∙ ap (λ (its : Shown). its.turn) runs.3.2

    here : IsLocal port state one.event one.failed made
    here =
        counted_local port state (sound_card state good.sound port) one.failed one.event made
        (comes_there one.event fit.comes) runs.1.0 stays

    changed : Changed state port neighbour one.event other.event one.failed other.failed made
        then_made
    changed =
        places_change_counted state good.sound port neighbour may.apart one.event other.event
        one.failed other.failed made then_made here (comes_there other.event its_fit.comes)
        runs.3.1.0 then_stays

    abbrev change : ChangePlaces state one.event other.event one.failed other.failed made then_made
    change = changed.change

    at : IsMadeAt port state made
    at = local_stays port state good.sound one.event one.failed made here

    first_at : IsMadeAt neighbour state change.first
    first_at = changed.at

    other_is : other ≡ shown_of state other.event other.failed change.first
    other_is =
        runs.3.2
        ∙ ap (λ (entries : List Entry). record {
          event = other.event;
          failed = other.failed;
          entries = entries;
          heads = made.state.durable.heads;
          here = port_in made.state neighbour;
          turn = made.state.shared;
          next = then_made.state.shared;
        }) (sym change.first_lines)
        ∙ ap (λ (heads : Heads). record {
          event = other.event;
          failed = other.failed;
          entries = change.first.entries;
          heads = heads;
          here = port_in made.state neighbour;
          turn = made.state.shared;
          next = then_made.state.shared;
        }) at.heads
        ∙ ap (λ (its : PortState). record {
          event = other.event;
          failed = other.failed;
          entries = change.first.entries;
          heads = state.durable.heads;
          here = its;
          turn = made.state.shared;
          next = then_made.state.shared;
        }) (at.others neighbour (λ same. may.apart (sym same)))
        ∙ ap (λ (n : ℕ). record {
          event = other.event;
          failed = other.failed;
          entries = change.first.entries;
          heads = state.durable.heads;
          here = port_in state neighbour;
          turn = n;
          next = then_made.state.shared;
        }) at.shared
        ∙ ap (λ (n : ℕ). record {
          event = other.event;
          failed = other.failed;
          entries = change.first.entries;
          heads = state.durable.heads;
          here = port_in state neighbour;
          turn = state.shared;
          next = n;
        }) (then_stays ∙ stays ∙ sym first_at.shared)

    one_is : one ≡ shown_of change.first.state one.event one.failed change.second
    one_is =
        runs.2
        ∙ ap (λ (entries : List Entry). record {
          event = one.event;
          failed = one.failed;
          entries = entries;
          heads = state.durable.heads;
          here = port_in state port;
          turn = state.shared;
          next = made.state.shared;
        }) (sym change.second_lines)
        ∙ ap (λ (heads : Heads). record {
          event = one.event;
          failed = one.failed;
          entries = change.second.entries;
          heads = heads;
          here = port_in state port;
          turn = state.shared;
          next = made.state.shared;
        }) (sym first_at.heads)
        ∙ ap (λ (its : PortState). record {
          event = one.event;
          failed = one.failed;
          entries = change.second.entries;
          heads = change.first.state.durable.heads;
          here = its;
          turn = state.shared;
          next = made.state.shared;
        }) (sym (first_at.others port may.apart))
        ∙ ap (λ (n : ℕ). record {
          event = one.event;
          failed = one.failed;
          entries = change.second.entries;
          heads = change.first.state.durable.heads;
          here = port_in change.first.state port;
          turn = n;
          next = made.state.shared;
        }) (sym first_at.shared)
        ∙ ap (λ (n : ℕ). record {
          event = one.event;
          failed = one.failed;
          entries = change.second.entries;
          heads = change.first.state.durable.heads;
          here = port_in change.first.state port;
          turn = change.first.state.shared;
          next = n;
        }) (sym then_stays ∙ ap (λ (its : WorldState). its.shared) (sym change.state))

    -- two neighbours change places in a run
    pub runs_swapped : Runs state (other ∷ one ∷ rest) after
    runs_swapped = (
      change.first,
      (change.first_happens, changed.durable),
      other_is,
      (
        change.second,
        (
          change.second_happens,
          subst (λ (its : WorldState). IsDurable its.durable) (sym change.state) runs.3.1.1,
        ),
        one_is,
        subst (λ (its : WorldState). Runs its rest after) (sym change.state) runs.3.3,
      ),
    )
