-- A run of a card beside the card of a profile alone.
use Rattle.std.proofs.Common.{◌≡◌, ◌≤◌, ◌<◌, ◌+◌, ℕ, Bool, true, false, cond, nat_eq, List, [], ◌∷◌}
use Rattle.std.proofs.Common.{length, map, Option, Some, None, Result, Ok, Err, refl, sym, ◌∙◌, ap}
use Rattle.std.proofs.Common.{subst, arith, inl, inr, length-set}
use Rattle.std.proofs.Common.{eqb-true}
use Rattle.std.specs.List.{AllByRecursion}
use Rattle.std.specs.Prelude.{slice_set}
use Rattle.apdu_codec.specs.Command.{Apdu, Spells}
use Rattle.apdu_codec.specs.declared.status.Sw.{Sw}
use Rattle.file_rows.specs.declared.content.Content.{Content}
use Rattle.lsi_refresh.specs.Lsi.{lsi_of}
use Rattle.lsi_refresh.specs.declared.lsi.Lsi.{Lsi}
use Rattle.lsi_refresh.specs.declared.lsi.Lsi.TheVariants as lsi
use Rattle.profile_card.specs.Card.{Card}
use Rattle.profile_card.specs.Commands.{decision}
use Rattle.profile_card.specs.Own.{is_common}
use Rattle.record_codec.specs.Heads.{content_at, held_content}
use Rattle.record_codec.specs.IsDurable.{IsDurable}
use Rattle.record_codec.specs.declared.durable.Durable.{Durable}
use Rattle.record_codec.specs.declared.durable.Heads.{Heads}
use Rattle.record_codec.specs.declared.profile.ProfileHead.{ProfileHead}
use Rattle.card_core.proofs.AloneLemmas.{IsNow, runs_more}
use Rattle.card_core.proofs.AloneLoadLemmas.{IsEnded, load_ends, load_goes}
use Rattle.card_core.proofs.AloneMoveLemmas.{isdr_goes, next_stays}
use Rattle.card_core.proofs.AloneOnceLemmas.{AreShares-once}
use Rattle.card_core.proofs.AloneStepLemmas.{GoesBy, fails_goes, lsi_goes, own_goes, power_goes}
use Rattle.card_core.proofs.AloneStepLemmas.{reset_goes, unspelled_goes}
use Rattle.card_core.proofs.CarriedLemmas.{desk_carried}
use Rattle.card_core.proofs.FedLemmas.{share_alike, shows_same}
use Rattle.card_core.proofs.SoundLemmas.{happens_sound}
use Rattle.card_core.proofs.SoundLoadLemmas.{happens_whole}
use Rattle.card_core.proofs.StayLemmas.{heads_where}
use Rattle.card_core.proofs.TellsFailureLemmas.{share_tells_failure}
use Rattle.card_core.proofs.WithinLemmas.{length_each, length_fresh}
use Rattle.card_core.specs.Alone.{InstallsWith, IsAnsweredAlone, RunsAlone, StartsAlone}
use Rattle.card_core.specs.Desk.{desk_outcome}
use Rattle.card_core.specs.Failed.{FailsLoadWith}
use Rattle.card_core.specs.Fed.{IsFed, IsToldAlone, seen_by}
use Rattle.card_core.specs.IsdrCommand.{busy_of, isdr_made}
use Rattle.card_core.specs.ManageLsi.{counted_at, lsi_asked_for, lsi_made}
use Rattle.card_core.specs.OwnCommand.{own_made}
use Rattle.card_core.specs.PortState.{fresh_port}
use Rattle.card_core.specs.Run.{IsOnCard}
use Rattle.card_core.specs.Share.{AreShares}
use Rattle.card_core.specs.Share.{Share, joined_share, no_share, seen_in}
use Rattle.card_core.specs.Sound.{BringsBytes, HasSoundLoads, IsSoundState}
use Rattle.card_core.specs.Statements.{AnswersBytes, MakesLoadStep, command_made}
use Rattle.card_core.specs.Stepped.{AreSteps, Happens, Stepped}
use Rattle.card_core.specs.Told.{has_failed, told_of}
use Rattle.card_core.specs.World.{Made, WorldState, card_in, port_in}
use Rattle.card_core.specs.declared.event.Event.{Event}
use Rattle.card_core.specs.declared.event.Event.TheVariants as events
use Rattle.card_core.specs.declared.event.LoadStep.{LoadStep}
use Rattle.card_core.specs.declared.event.LoadStep.TheVariants as steps

-- a card has its ports for good, and its next number only rises
module _ (state : WorldState) (sound : IsSoundState state) where
  pub record Keeps (made : Made) : Type 0 where
    pub places : length made.state.ports ≡ length state.ports
    pub next : state.durable.heads.next_number ≤ made.state.durable.heads.next_number

  lsi_keeps : (port : ℕ) (asked : Result Lsi Sw) → Keeps (lsi_asked_for state port asked)
  lsi_keeps port (Ok lsi.Count) = record {
    places = length-set state.ports port _;
    next = omega arith;
  }
  lsi_keeps port (Ok (lsi.Reset other)) = record {
    places = length-set (counted_at state port).ports other _ ∙ length-set state.ports port _;
    next = omega arith;
  }
  lsi_keeps port (Err sw) = record { places = length-set state.ports port _; next = omega arith }

  isdr_keeps : (port : ℕ) (c : Apdu) → port < state.durable.heads.ports.count
      → Keeps (isdr_made state port c)
  isdr_keeps port c below =
      let outcome = desk_outcome (port_in state port).desk state.durable.heads
      (busy_of state.ports) port c in
      let carried = desk_carried state.durable sound.are (busy_of state.ports) port below
      (port_in state port).desk c in
      let same : (isdr_made state port c).state.durable.heads.next_number
      ≡ state.durable.heads.next_number =
      next_stays state.durable outcome.entry carried.kind in
      record {
        places = length_each _ 0 (slice_set state.ports port _)
            ∙ length-set state.ports port _;
        next = omega (arith, same);
      }

  own_keeps : (port : ℕ) (c : Apdu) → Keeps (own_made state port c)
  own_keeps port c =
      let same : (own_made state port c).state.durable.heads.next_number
      ≡ state.durable.heads.next_number =
      ap (λ (its : Heads). its.next_number)
      (heads_where state.durable port (decision (card_in state port) c).change) in
      record { places = length-set state.ports port _; next = omega (arith, same) }

  command_keeps : (port : ℕ) (c : Apdu) → port < state.durable.heads.ports.count
      → Keeps (command_made state port c)
  command_keeps port c below = by (is_common (port_in state port).session c) (nat_eq c.ins 0x7A)
    where
      by : (common is_lsi : Bool) → Keeps (cond common
          (cond is_lsi (lsi_made state port c) (isdr_made state port c)) (own_made state port c))
      by true true = lsi_keeps port (lsi_of c state.durable.heads.ports.count)
      by true false = isdr_keeps port c below
      by false is_lsi = own_keeps port c

  bytes_keep : (port : ℕ) (bytes : List ℕ) (made : Made)
      → port < state.durable.heads.ports.count → AnswersBytes state port bytes made → Keeps made
  bytes_keep port bytes made below (inl spelled) =
      subst Keeps (sym spelled.2) (command_keeps port spelled.0 below)
  bytes_keep port bytes made below (inr none) =
      subst Keeps (sym none.1)
      (record { places = length-set state.ports port _; next = omega arith })

  ended_next : (after : Durable) → IsEnded state.durable after
      → state.durable.heads.next_number ≤ after.heads.next_number
  ended_next after (inl same) =
      let next : after.heads.next_number ≡ state.durable.heads.next_number =
      ap (λ (its : Durable). its.heads.next_number) same in omega (arith, next)
  ended_next after (inr put) =
      let next : after.heads.next_number ≡ state.durable.heads.next_number + 1 =
      ap (λ (its : Durable). its.heads.next_number) put.2 in omega (arith, next)

  load_keeps : (port : ℕ) (step : LoadStep) (made : Made) → MakesLoadStep state port step made
      → Keeps made
  load_keeps port (steps.Begin metadata) made is =
      subst Keeps (sym is) (record { places = length-set state.ports port _; next = omega arith })
  load_keeps port (steps.Piece piece) made is =
      subst Keeps (sym is) (record { places = length-set state.ports port _; next = omega arith })
  load_keeps port steps.End made ends =
      subst Keeps (sym ends.2) (record {
        places = length-set state.ports port _;
        next = ended_next ends.0.durable
            (load_ends state.durable (state.commits + 1) (port_in state port).load ends.0 ends.1);
      })

  failed_load_keeps : (port : ℕ) (step : LoadStep) (made : Made)
      → FailsLoadWith state port step made → Keeps made
  failed_load_keeps port (steps.Begin metadata) made is =
      subst Keeps (sym is) (record { places = length-set state.ports port _; next = omega arith })
  failed_load_keeps port (steps.Piece piece) made is =
      subst Keeps (sym is) (record { places = length-set state.ports port _; next = omega arith })
  failed_load_keeps port steps.End made ends =
      subst Keeps (sym ends.1)
      (record { places = length-set state.ports port _; next = omega arith })

  pub happens_keeps : (failed : Bool) (event : Event) (made : Made)
      → IsOnCard state.durable.heads.ports.count event → Happens failed state event made
      → Keeps made
  happens_keeps false (events.Apdu port bytes) made on is = bytes_keep port bytes made on is
  happens_keeps false (events.Reset port) made on is =
      subst Keeps (sym is) (record { places = length-set state.ports port _; next = omega arith })
  happens_keeps false (events.Load port step) made on is = load_keeps port step made is
  happens_keeps false events.Power made on is =
      subst Keeps (sym is) (record {
        places = length_fresh state.durable.heads.ports.count fresh_port ∙ sym sound.count;
        next = omega arith;
      })
  happens_keeps true (events.Apdu port bytes) made on is =
      subst Keeps (sym is.3) (record { places = length-set state.ports port _; next = omega arith })
  happens_keeps true (events.Reset port) made on is = absurd is
  happens_keeps true (events.Load port step) made on is = failed_load_keeps port step made is
  happens_keeps true events.Power made on is = absurd is

-- one step of the card of a profile alone, of each kind
module _ (profile : ℕ) (content : Content) (state : WorldState) (sound : IsSoundState state)
    (card : Card) (now : IsNow profile content state card) where
  abbrev By : Event → Bool → Made → Type 0
  By = GoesBy profile content state sound card now

  port_there : (port : ℕ) → port < state.durable.heads.ports.count → port < length state.ports
  port_there port below =
      let same : length state.ports ≡ state.durable.heads.ports.count = sound.count in
      omega (arith, below, same)

  command_goes : (port : ℕ) (bytes : List ℕ) (c : Apdu) → Spells bytes c
      → port < state.durable.heads.ports.count
      → IsDurable (command_made state port c).state.durable
      → By (events.Apdu port bytes) false (command_made state port c)
  command_goes port bytes c spelled below =
      by (is_common (port_in state port).session c) (nat_eq c.ins 0x7A) refl refl
    where
      by : (common is_lsi : Bool) → is_common (port_in state port).session c ≡ common
          → nat_eq c.ins 0x7A ≡ is_lsi
          → IsDurable (cond common (cond is_lsi (lsi_made state port c) (isdr_made state port c))
          (own_made state port c)).state.durable
          → By (events.Apdu port bytes) false (cond common
          (cond is_lsi (lsi_made state port c) (isdr_made state port c)) (own_made state port c))
      by true true common is_lsi are =
          lsi_goes profile content state sound card now port bytes c spelled common is_lsi
      by true false common is_lsi are =
          isdr_goes profile content state sound card now port bytes c spelled common is_lsi below
          are
      by false is_lsi own test are =
          own_goes profile content state sound card now port bytes c spelled own
          (port_there port below) are

  bytes_go : (port : ℕ) (bytes : List ℕ) (made : Made) → port < state.durable.heads.ports.count
      → IsDurable made.state.durable → AnswersBytes state port bytes made
      → By (events.Apdu port bytes) false made
  bytes_go port bytes made below are (inl spelled) =
      subst (By (events.Apdu port bytes) false) (sym spelled.2)
      (command_goes port bytes spelled.0 spelled.1 below
      (subst (λ (its : Made). IsDurable its.state.durable) spelled.2 are))
  bytes_go port bytes made below are (inr none) =
      subst (By (events.Apdu port bytes) false) (sym none.1)
      (unspelled_goes profile content state sound card now port bytes none.0)

  step_goes : (failed : Bool) (event : Event) (made : Made)
      → IsOnCard state.durable.heads.ports.count event → Happens failed state event made
      → IsDurable made.state.durable
      → (state.durable.heads.next_number ≤ profile → InstallsWith profile content
      (record { before = state; event = event; failed = failed; made = made }))
      → By event failed made
  step_goes false (events.Apdu port bytes) made on is are installs =
      bytes_go port bytes made on are is
  step_goes false (events.Reset port) made on is are installs =
      subst (By (events.Reset port) false) (sym is)
      (reset_goes profile content state sound card now port (port_there port on))
  step_goes false (events.Load port step) made on is are installs =
      load_goes profile content state sound card now port step made installs are is
  step_goes false events.Power made on is are installs =
      subst (By events.Power false) (sym is) (power_goes profile content state sound card now)
  step_goes true event made on is are installs =
      fails_goes profile content state sound card now event made is

-- what a run gives a profile, and what its card alone comes to
module _ (profile : ℕ) (content : Content) where
  abbrev pub RunGoes : ℕ → List Stepped → Card → WorldState → Type 0
  RunGoes ports steps card after =
      (share : Share) × (last : Card) × AreShares profile steps share
      × RunsAlone card share.given share.answers last × IsNow profile content after last
      × IsFed profile ports card (map told_of steps) share

  abbrev pub AreDurable : List Stepped → Type 0
  AreDurable steps = AllByRecursion (λ step. IsDurable step.made.state.durable) steps

  ends : (ports : ℕ) (start after : WorldState) (card : Card) (taken : List Stepped)
      → taken ≡ [] → after ≡ start → IsNow profile content start card
      → RunGoes ports taken card after
  ends ports start after card taken none same now =
      subst (λ (its : List Stepped). RunGoes ports its card after) (sym none)
      (subst (RunGoes ports [] card) (sym same) (no_share, card, refl, (refl, refl), now, refl))

  -- one more step before the others
  module _ (event : Event) (came : List Event) (start : WorldState) (taken : List Stepped)
      (after : WorldState) (card : Card) (sound : IsSoundState start)
      (on : AllByRecursion (IsOnCard start.durable.heads.ports.count) (event ∷ came))
      (are : AreSteps start (event ∷ came) taken after) (durable : AreDurable taken)
      (installs : start.durable.heads.next_number ≤ profile
      → AllByRecursion (InstallsWith profile content) taken)
      (now : IsNow profile content start card) where
    abbrev done : Made
    done = are.1

    abbrev first_step : Stepped
    first_step = record { before = start; event = event; failed = are.0; made = done }

    durable_now : AreDurable (first_step ∷ are.2)
    durable_now = subst AreDurable are.5 durable

    installs_now : start.durable.heads.next_number ≤ profile
        → AllByRecursion (InstallsWith profile content) (first_step ∷ are.2)
    installs_now low = subst (AllByRecursion (InstallsWith profile content)) are.5 (installs low)

    first : GoesBy profile content start sound card now event are.0 done
    first =
        step_goes profile content start sound card now are.0 event done on.0 are.3 durable_now.0
        (λ low. (installs_now low).0)

    sound_now : IsSoundState done.state
    sound_now = happens_sound start sound are.0 event done on.0 are.3 durable_now.0

    keeps : Keeps start sound done
    keeps = happens_keeps start sound are.0 event done on.0 are.3

    same_ports : start.durable.heads.ports.count ≡ done.state.durable.heads.ports.count
    same_ports = sym sound.count ∙ sym keeps.places ∙ sound_now.count

    on_now : AllByRecursion (IsOnCard done.state.durable.heads.ports.count) came
    on_now = subst (λ (count : ℕ). AllByRecursion (IsOnCard count) came) same_ports on.1

    rest_installs : done.state.durable.heads.next_number ≤ profile
        → AllByRecursion (InstallsWith profile content) are.2
    rest_installs low =
        let more : start.durable.heads.next_number ≤ done.state.durable.heads.next_number =
        keeps.next in
        (installs_now (omega (arith, more, low))).1

    joined : RunGoes done.state.durable.heads.ports.count are.2 first.1 after
        → RunGoes start.durable.heads.ports.count taken card after
    joined later =
        subst (λ (its : List Stepped). RunGoes start.durable.heads.ports.count its card after)
        (sym are.5) (
          joined_share first.0 later.0,
          later.1,
          (first.0, later.0, first.2, later.2, refl),
          runs_more card first.0.given later.0.given first.0.answers later.0.answers first.1
              later.1 first.3 later.3,
          later.4,
          (
            first.0,
            later.0,
            first.0.answers,
            first.1,
            share_alike profile (seen_in start)
                (seen_by profile start.durable.heads.ports.count card)
                (shows_same profile start sound.are card now.its
                start.durable.heads.ports.count refl) (told_of first_step)
                (has_failed (told_of first_step)) first.0
                (share_tells_failure profile start sound event are.0 done are.3 first.0 first.2),
            first.3,
            subst (λ (ports : ℕ). IsFed profile ports first.1 (map told_of are.2) later.0)
                (sym same_ports) later.5,
            refl,
          ),
        )

    more : ((next : Card) → IsSoundState done.state
        → AllByRecursion (IsOnCard done.state.durable.heads.ports.count) came
        → AreDurable are.2
        → (done.state.durable.heads.next_number ≤ profile
        → AllByRecursion (InstallsWith profile content) are.2)
        → IsNow profile content done.state next
        → RunGoes done.state.durable.heads.ports.count are.2 next after)
        → RunGoes start.durable.heads.ports.count taken card after
    more goes =
        joined (goes first.1 sound_now on_now durable_now.1 rest_installs first.4)

  pub run_goes : (came : List Event) (start : WorldState) (taken : List Stepped)
      (after : WorldState) (card : Card) → IsSoundState start
      → AllByRecursion (IsOnCard start.durable.heads.ports.count) came
      → AreSteps start came taken after → AreDurable taken
      → (start.durable.heads.next_number ≤ profile
      → AllByRecursion (InstallsWith profile content) taken)
      → IsNow profile content start card
      → RunGoes start.durable.heads.ports.count taken card after
  run_goes [] start taken after card sound on are durable installs now =
      ends start.durable.heads.ports.count start after card taken are.0 are.1 now
  run_goes (event ∷ came) start taken after card sound on are durable installs now =
      more event came start taken after card sound on are durable installs now
      (λ card sound on durable installs now.
      run_goes came are.1.state are.2 after card sound on are.4 durable installs now)

-- a content that is held is of a number below the next one
number_below : (profile next : ℕ) (heads : List ProfileHead) (contents : List Content)
    (its : Content) → AllByRecursion (λ head. head.number < next) heads
    → content_at profile heads contents ≡ Some its → next ≤ profile → ⊥
number_below profile next [] contents its below held low = absurd cc
number_below profile next (head ∷ heads) [] its below held low = absurd cc
number_below profile next (head ∷ heads) (content ∷ contents) its below held low =
    by (nat_eq head.number profile) refl
    (λ found. number_below profile next heads contents its below.1 found low) held
  where
    by : (same : Bool) → nat_eq head.number profile ≡ same
        → (content_at profile heads contents ≡ Some its → ⊥)
        → cond same (Some content) (content_at profile heads contents) ≡ Some its → ⊥
    by true is rest found =
        let less : head.number < next = below.0 in
        let number : head.number ≡ profile = eqb-true head.number profile is in
        omega (arith, less, number, low)
    by false is rest found = rest found

module _ (profile : ℕ) (start : WorldState) (sound : IsSoundState start) (card : Card)
    (taken : List Stepped) (alone : StartsAlone profile start taken card) where
  installs : (held : Option Content) → held_content profile start.durable ≡ held
      → start.durable.heads.next_number ≤ profile
      → AllByRecursion (InstallsWith profile card.content) taken
  installs None is low = alone.installed is
  installs (Some its) is low =
      absurd (number_below profile start.durable.heads.next_number start.durable.heads.profiles
      start.durable.contents its sound.are.heads.profiles.below is low)

  begins : IsNow profile card.content start card
  begins = record { its = alone.its; pending = λ low. refl }

-- each profile is answered as its card alone, by what it is given and by what is told of it
module _ (start : WorldState) (came : List Event) (taken : List Stepped) (after : WorldState)
    (sound : IsSoundState start)
    (on : AllByRecursion (IsOnCard start.durable.heads.ports.count) came)
    (are : AreSteps start came taken after)
    (durable : AllByRecursion (λ step. IsDurable step.made.state.durable) taken) where
  goes_alone : (profile : ℕ) (card : Card) → StartsAlone profile start taken card
      → RunGoes profile card.content start.durable.heads.ports.count taken card after
  goes_alone profile card alone =
      run_goes profile card.content came start taken after card sound on are durable
      (installs profile start sound card taken alone (held_content profile start.durable) refl)
      (begins profile start sound card taken alone)

  pub answered_alone : (profile : ℕ) → IsAnsweredAlone profile start taken after
  answered_alone profile card alone =
      let goes = goes_alone profile card alone in
      (goes.0, goes.1, goes.2, goes.3, goes.4.its)

  pub told_alone : (profile : ℕ) → IsToldAlone profile start taken (map told_of taken) after
  told_alone profile card alone =
      let goes = goes_alone profile card alone in
      (goes.0, goes.1, goes.5, goes.3, goes.4.its)

  -- what is told tells what is given
  pub told_given : (profile : ℕ) (card : Card) (share : Share)
      → StartsAlone profile start taken card → AreShares profile taken share
      → IsFed profile start.durable.heads.ports.count card (map told_of taken) share
  told_given profile card share alone shares =
      let goes = goes_alone profile card alone in
      subst (IsFed profile start.durable.heads.ports.count card (map told_of taken))
      (AreShares-once profile taken goes.0 share goes.2 shares) goes.5

-- in a run of a sound card each step leaves what a card may keep
pub steps_durable : (came : List Event) (start : WorldState) (taken : List Stepped)
    (after : WorldState) → IsSoundState start → HasSoundLoads start
    → AllByRecursion (IsOnCard start.durable.heads.ports.count) came
    → AllByRecursion BringsBytes came → AreSteps start came taken after
    → AllByRecursion (λ step. IsDurable step.made.state.durable) taken
steps_durable [] start taken after sound loads on small are =
    subst (AllByRecursion (λ step. IsDurable step.made.state.durable)) (sym are.0) tt
steps_durable (event ∷ came) start taken after sound loads on small are =
    let whole = happens_whole start sound loads are.0 event are.1 on.0 small.0 are.3 in
    let keeps = happens_keeps start sound are.0 event are.1 on.0 are.3 in
    let count : start.durable.heads.ports.count ≡ are.1.state.durable.heads.ports.count =
    sym sound.count ∙ sym keeps.places ∙ whole.0.count in
    subst (AllByRecursion (λ step. IsDurable step.made.state.durable)) (sym are.5) (
      whole.0.are,
      steps_durable came are.1.state are.2 after whole.0 whole.1
          (subst (λ (n : ℕ). AllByRecursion (IsOnCard n) came) count on.1) small.1 are.4,
    )
