-- A run and the same statements in the order of the merge install a profile with the same content.
use Rattle.std.proofs.Common.{◌≡◌, ◌≢◌, ◌⊎◌, ◌<◌, ◌+◌, ℕ, Bool, true, false, cond, nat_eq, List, []}
use Rattle.std.proofs.Common.{◌∷◌, ◌++◌, length, map, Option, Some, None, Result, Ok, Err, refl}
use Rattle.std.proofs.Common.{sym}
use Rattle.std.proofs.Common.{◌∙◌, ap, subst, arith, inl, inr, eqb-true}
use Rattle.std.proofs.lemmas.Bool.{eq-eqb, eqb-false, true≢false}
use Rattle.std.specs.List.{AllByRecursion}
use Rattle.std.specs.Prelude.{IfSome}
use Rattle.apdu_codec.specs.Command.{Apdu}
use Rattle.apdu_codec.specs.declared.status.Sw.{Sw}
use Rattle.file_rows.specs.declared.content.Content.{Content}
use Rattle.isdr_commands.specs.Installation.{install_refusal}
use Rattle.isdr_commands.specs.declared.install.LoadRefusal.{LoadRefusal}
use Rattle.lsi_refresh.specs.Lsi.{lsi_of}
use Rattle.lsi_refresh.specs.declared.lsi.Lsi.{Lsi}
use Rattle.lsi_refresh.specs.declared.lsi.Lsi.TheVariants as lsi
use Rattle.notify_list.proofs.NoteLemmas.{any_of_none}
use Rattle.profile_card.specs.Commands.{decision}
use Rattle.profile_card.specs.Own.{is_common}
use Rattle.profile_install.proofs.OneAnswer.{one_answer}
use Rattle.profile_install.specs.Package.{PackageGives}
use Rattle.profile_install.specs.declared.work.Refusal.{Refusal}
use Rattle.record_codec.proofs.HeldLemmas.{content_none}
use Rattle.record_codec.proofs.LocalLemmas.{contents_stay}
use Rattle.record_codec.specs.Apply.{apply}
use Rattle.record_codec.specs.Gone.{is_among}
use Rattle.record_codec.specs.Heads.{content_at, held_content}
use Rattle.record_codec.specs.IsDurable.{IsDurable}
use Rattle.record_codec.specs.declared.durable.Durable.{Durable}
use Rattle.record_codec.specs.declared.profile.ProfileHead.{ProfileHead}
use Rattle.record_codec.specs.declared.record.Record.{Record}
use Rattle.record_codec.specs.declared.record.Record.TheVariants as records
use Rattle.card_core.proofs.CarriedLemmas.{IsOfRequest, desk_carried}
use Rattle.card_core.proofs.KeptLemmas.{not_next}
use Rattle.card_core.proofs.MovedLemmas.{not_held, stands}
use Rattle.card_core.proofs.ShownLemmas.{IsGood, Shown, good_after, shown, shown_of}
use Rattle.card_core.proofs.StatementLemmas.{its_port}
use Rattle.card_core.proofs.StayLemmas.{held_elsewhere}
use Rattle.card_core.specs.Alone.{InstallsWith}
use Rattle.card_core.specs.Desk.{desk_outcome}
use Rattle.card_core.specs.Failed.{FailsLoadWith}
use Rattle.card_core.specs.IsdrCommand.{busy_of, isdr_made}
use Rattle.card_core.specs.Load.{EndsBytes, EndsLoad, LoadEnd, end_made, installed, installing}
use Rattle.card_core.specs.Load.{load_built}
use Rattle.card_core.specs.LoadState.{LoadState}
use Rattle.card_core.specs.ManageLsi.{lsi_asked_for, lsi_made}
use Rattle.card_core.specs.Merge.{ComesToPort}
use Rattle.card_core.specs.OwnCommand.{own_made}
use Rattle.card_core.specs.Port.{profile_on}
use Rattle.card_core.specs.Recorded.{recorded}
use Rattle.card_core.specs.Run.{IsOnCard}
use Rattle.card_core.specs.Statements.{AnswersBytes, MakesLoadStep, command_made}
use Rattle.card_core.specs.Stepped.{AreSteps, Happens, Stepped}
use Rattle.card_core.specs.World.{Made, WorldState, card_in, port_in}
use Rattle.card_core.specs.declared.event.Event.{Event}
use Rattle.card_core.specs.declared.event.Event.TheVariants as events
use Rattle.card_core.specs.declared.event.LoadStep.{LoadStep}
use Rattle.card_core.specs.declared.event.LoadStep.TheVariants as steps

-- the item is the end of a load that installs this profile with that content
pub record Installing (profile : ℕ) (item : Shown) (its : Content) : Type 0 where
  pub port : ℕ
  pub event : item.event ≡ events.Load port steps.End
  pub made : item.failed ≡ false
  pub load : LoadState
  pub there : item.here.load ≡ Some load
  pub bytes : List ℕ
  pub came : load.received ≡ Some bytes
  pub gives : PackageGives load.head.iccid bytes (Ok its)
  pub fits : install_refusal item.heads load.head ≡ None
  pub number : item.heads.next_number ≡ profile

abbrev pub ShowsInstall : ℕ → Content → Shown → Type 0
ShowsInstall profile content item = (its : Content) → Installing profile item its → content ≡ its

-- one more content behind the others
last_content : (number : ℕ) (heads : List ProfileHead) (contents : List Content)
    (head : ProfileHead) (its : Content) → length contents ≡ length heads
    → content_at number heads contents ≡ None → head.number ≡ number
    → content_at number (heads ++ head ∷ []) (contents ++ its ∷ []) ≡ Some its
last_content number [] [] head its pairs none same =
    ap (λ (here : Bool). cond here (Some its) None) (eq-eqb head.number number same)
last_content number [] (content ∷ contents) head its pairs none same =
    absurd (omega (arith, pairs))
last_content number (one ∷ heads) [] head its pairs none same = absurd (omega (arith, pairs))
last_content number (one ∷ heads) (content ∷ contents) head its pairs none same =
    by (nat_eq one.number number) none
    (λ rest. last_content number heads contents head its (omega (arith, pairs)) rest same)
  where
    by : (here : Bool) → cond here (Some content) (content_at number heads contents) ≡ None
        → (content_at number heads contents ≡ None
        → content_at number (heads ++ head ∷ []) (contents ++ its ∷ []) ≡ Some its)
        → cond here (Some content)
        (content_at number (heads ++ head ∷ []) (contents ++ its ∷ [])) ≡ Some its
    by true none later = absurd cc
    by false none later = later none

-- a number without a content isn't held
none_held : (number : ℕ) (heads : List ProfileHead) (contents : List Content)
    → length contents ≡ length heads → content_at number heads contents ≡ None
    → AllByRecursion (λ (head : ProfileHead). head.number ≡ number → ⊥) heads
none_held number [] contents pairs none = tt
none_held number (head ∷ heads) [] pairs none = absurd (omega (arith, pairs))
none_held number (head ∷ heads) (content ∷ contents) pairs none =
    by (nat_eq head.number number) refl none
    (λ rest. none_held number heads contents (omega (arith, pairs)) rest)
  where
    by : (here : Bool) → nat_eq head.number number ≡ here
        → cond here (Some content) (content_at number heads contents) ≡ None
        → (content_at number heads contents ≡ None
        → AllByRecursion (λ (one : ProfileHead). one.number ≡ number → ⊥) heads)
        → AllByRecursion (λ (one : ProfileHead). one.number ≡ number → ⊥) (head ∷ heads)
    by true is none later = absurd cc
    by false is none later = (eqb-false head.number number is, later none)

module _ (profile : ℕ) (state : WorldState) (are : IsDurable state.durable) where
  abbrev durable : Durable
  durable = state.durable

  -- the next number isn't held
  next_none : durable.heads.next_number ≡ profile → held_content profile durable ≡ None
  next_none same =
      subst (λ (n : ℕ). held_content n durable ≡ None) same
      (content_none durable.heads.next_number durable.heads.profiles durable.contents
      (not_next durable.heads.next_number durable.heads.profiles are.heads.profiles.below))

  put_content : (head : ProfileHead) (its : Content) → durable.heads.next_number ≡ profile
      → held_content profile
      (apply durable (records.PutProfile true (installed durable head its) None)) ≡ Some its
  put_content head its same =
      last_content profile durable.heads.profiles durable.contents
      (installed durable head its).head its are.contents.pairs (next_none same) same

  -- the end of a load that shows an installation makes it
  ends_installed : (content : Content) (port : ℕ) (made : Made)
      → (load : LoadState) → (port_in state port).load ≡ Some load
      → (bytes : List ℕ) → load.received ≡ Some bytes
      → (its : Content) → PackageGives load.head.iccid bytes (Ok its)
      → install_refusal durable.heads load.head ≡ None → durable.heads.next_number ≡ profile
      → MakesLoadStep state port steps.End made
      → held_content profile made.state.durable ≡ Some its
  ends_installed content port made load there bytes came its gives fits number ends =
      let built : EndsBytes durable (state.commits + 1) load (Some bytes) ends.0 =
      subst (λ (received : Option (List ℕ)). EndsBytes durable (state.commits + 1) load received
      ends.0) came
      (subst (λ (its_load : Option LoadState). EndsLoad durable (state.commits + 1) its_load ends.0)
      there ends.1) in
      let same : built.0 ≡ Ok its =
      one_answer load.head.iccid bytes built.0 (Ok its) built.1 gives in
      ap (λ (one : Made). held_content profile one.state.durable) ends.2
      ∙ ap (λ (end : LoadEnd). held_content profile end.durable) built.2
      ∙ ap (λ (answer : Result Content Refusal). held_content profile
      (load_built durable (state.commits + 1) load.head answer).durable) same
      ∙ ap (λ (refusal : Option LoadRefusal). held_content profile
      (installing durable (state.commits + 1) load.head its refusal).durable) fits
      ∙ put_content load.head its number

  abbrev step_of : Event → Bool → Made → Stepped
  step_of event failed made =
      record { before = state; event = event; failed = failed; made = made }

  pub shows_install : (content : Content) (event : Event) (failed : Bool) (made : Made)
      → Happens failed state event made → InstallsWith profile content (step_of event failed made)
      → ShowsInstall profile content (shown_of state event failed made)
  shows_install content event failed made happens installs its is =
      installs its (next_none is.number)
      (ends_installed content is.port made is.load
      (ap (λ (one : Event). (port_in state (its_port one)).load) (sym is.event) ∙ is.there)
      is.bytes is.came its is.gives is.fits is.number
      (subst (λ (one : Event). Happens false state one made) is.event
      (subst (λ (one : Bool). Happens one state event made) is.made happens)))

  -- a profile that isn't held comes by an installation alone
  module _ (none : held_content profile durable ≡ None) where
    isnt_held : (port : ℕ) → profile_on durable port ≢ Some profile
    isnt_held port on =
        any_of_none (λ (head : ProfileHead). head.number ≡ profile) durable.heads.profiles
        (none_held profile durable.heads.profiles durable.contents are.contents.pairs none)
        (are.heads.ports.held profile port (stands durable.heads.ports.on port profile on))

    abbrev Away : Durable → Type 0
    Away after = held_content profile after ≡ None

    gone : (numbers : List ℕ) (among : Bool) → is_among numbers profile ≡ among
        → Away (apply durable (records.Gone numbers))
    gone numbers true is =
        content_none profile (apply durable (records.Gone numbers)).heads.profiles
        (apply durable (records.Gone numbers)).contents
        (not_held numbers profile is durable.heads.profiles)
    gone numbers false is =
        contents_stay durable (records.Gone numbers) profile are.contents.pairs
        (λ among. absurd (true≢false (sym among ∙ is))) ∙ none

    by_entry : (entry : Option Record) → IfSome entry IsOfRequest → Away (recorded durable entry)
    by_entry None kind = none
    by_entry (Some (records.PutCard mode ports eid next_number next_note notes)) kind = absurd kind
    by_entry (Some (records.PutProfile installation put port)) kind = absurd kind
    by_entry (Some (records.Content other change)) kind = absurd kind
    by_entry (Some (records.Bind bound port displaced)) kind = none
    by_entry (Some (records.Unbind bound)) kind = none
    by_entry (Some (records.Gone numbers)) kind = gone numbers (is_among numbers profile) refl
    by_entry (Some (records.Name named nickname)) kind =
        contents_stay durable (records.Name named nickname) profile are.contents.pairs
        (λ touches. touches) ∙ none
    by_entry (Some (records.NoteGone number)) kind = none

    abbrev IsAway : Made → Type 0
    IsAway made = Away made.state.durable

    asked_away : (port : ℕ) (asked : Result Lsi Sw) → IsAway (lsi_asked_for state port asked)
    asked_away port (Ok lsi.Count) = none
    asked_away port (Ok (lsi.Reset other)) = none
    asked_away port (Err sw) = none

    command_away : (port : ℕ) (c : Apdu) → port < durable.heads.ports.count
        → IsAway (command_made state port c)
    command_away port c below =
        by (is_common (port_in state port).session c) (nat_eq c.ins 0x7A)
      where
        by : (common is_lsi : Bool) → IsAway (cond common
            (cond is_lsi (lsi_made state port c) (isdr_made state port c)) (own_made state port c))
        by true true = asked_away port (lsi_of c durable.heads.ports.count)
        by true false =
            by_entry
            (desk_outcome (port_in state port).desk durable.heads (busy_of state.ports) port
            c).entry
            (desk_carried durable are (busy_of state.ports) port below
            (port_in state port).desk c).kind
        by false is_lsi =
            held_elsewhere durable are port (decision (card_in state port) c).change profile
            (isnt_held port) ∙ none

    bytes_away : (port : ℕ) (bytes : List ℕ) (made : Made) → port < durable.heads.ports.count
        → AnswersBytes state port bytes made → IsAway made
    bytes_away port bytes made below (inl spelled) =
        subst IsAway (sym spelled.2) (command_away port spelled.0 below)
    bytes_away port bytes made below (inr unspelled) = subst IsAway (sym unspelled.1) none

    -- it stays away, or the item shows its installation
    abbrev AwayOr : Event → Bool → Made → Type 0
    AwayOr event failed made =
        IsAway made ⊎ ((its : Content) × Installing profile (shown_of state event failed made) its
        × (held_content profile made.state.durable ≡ Some its))

    module _ (port : ℕ) where
      abbrev EndsAwayOr : LoadEnd → Type 0
      EndsAwayOr end = AwayOr (events.Load port steps.End) false (end_made state port end)

      module _ (load : LoadState) (there : (port_in state port).load ≡ Some load) (bytes : List ℕ)
          (came : load.received ≡ Some bytes) where
        installing_or : (its : Content) → PackageGives load.head.iccid bytes (Ok its)
            → (refusal : Option LoadRefusal) → install_refusal durable.heads load.head ≡ refusal
            → EndsAwayOr (installing durable (state.commits + 1) load.head its refusal)
        installing_or its gives (Some refusal) is = inl none
        installing_or its gives None is =
            by (nat_eq durable.heads.next_number profile) refl
          where
            by : (same : Bool) → nat_eq durable.heads.next_number profile ≡ same
                → EndsAwayOr (installing durable (state.commits + 1) load.head its None)
            by true same =
                let number : durable.heads.next_number ≡ profile =
                eqb-true durable.heads.next_number profile same in
                inr (
                  its,
                  record {
                    port = port;
                    event = refl;
                    made = refl;
                    load = load;
                    there = there;
                    bytes = bytes;
                    came = came;
                    gives = gives;
                    fits = is;
                    number = number;
                  },
                  put_content load.head its number,
                )
            by false apart =
                inl (contents_stay durable
                (records.PutProfile true (installed durable load.head its) None) profile
                are.contents.pairs (eqb-false durable.heads.next_number profile apart) ∙ none)

        built_or : (answer : Result Content Refusal) → PackageGives load.head.iccid bytes answer
            → EndsAwayOr (load_built durable (state.commits + 1) load.head answer)
        built_or (Err refusal) gives = inl none
        built_or (Ok its) gives =
            installing_or its gives (install_refusal durable.heads load.head) refl

      bytes_or : (load : LoadState) → (port_in state port).load ≡ Some load
          → (received : Option (List ℕ)) → load.received ≡ received → (end : LoadEnd)
          → EndsBytes durable (state.commits + 1) load received end → EndsAwayOr end
      bytes_or load there None is end ends = subst EndsAwayOr (sym ends) (inl none)
      bytes_or load there (Some bytes) is end ends =
          subst EndsAwayOr (sym ends.2) (built_or load there bytes is ends.0 ends.1)

      end_or : (load : Option LoadState) → (port_in state port).load ≡ load → (end : LoadEnd)
          → EndsLoad durable (state.commits + 1) load end → EndsAwayOr end
      end_or None is end ends = subst EndsAwayOr (sym ends) (inl none)
      end_or (Some load) is end ends = bytes_or load is load.received refl end ends

    step_or : (port : ℕ) (step : LoadStep) (made : Made) → MakesLoadStep state port step made
        → AwayOr (events.Load port step) false made
    step_or port (steps.Begin metadata) made is = inl (subst IsAway (sym is) none)
    step_or port (steps.Piece piece) made is = inl (subst IsAway (sym is) none)
    step_or port steps.End made ends =
        subst (AwayOr (events.Load port steps.End) false) (sym ends.2)
        (end_or port (port_in state port).load refl ends.0 ends.1)

    failed_away : (port : ℕ) (step : LoadStep) (made : Made)
        → FailsLoadWith state port step made → IsAway made
    failed_away port (steps.Begin metadata) made is = subst IsAway (sym is) none
    failed_away port (steps.Piece piece) made is = subst IsAway (sym is) none
    failed_away port steps.End made ends = subst IsAway (sym ends.1) none

    event_or : (event : Event) (failed : Bool) (made : Made)
        → IsOnCard durable.heads.ports.count event → Happens failed state event made
        → AwayOr event failed made
    event_or (events.Apdu port bytes) false made on is = inl (bytes_away port bytes made on is)
    event_or (events.Reset port) false made on is = inl (subst IsAway (sym is) none)
    event_or (events.Load port step) false made on is = step_or port step made is
    event_or events.Power false made on is = inl (subst IsAway (sym is) none)
    event_or (events.Apdu port bytes) true made on is = inl (subst IsAway (sym is.3) none)
    event_or (events.Reset port) true made on is = absurd is
    event_or (events.Load port step) true made on is = inl (failed_away port step made is)
    event_or events.Power true made on is = absurd is

  pub installs_shown : (content : Content) (event : Event) (failed : Bool) (made : Made)
      → IsOnCard durable.heads.ports.count event → Happens failed state event made
      → ShowsInstall profile content (shown_of state event failed made)
      → InstallsWith profile content (step_of event failed made)
  installs_shown content event failed made on happens shows its none some =
      by (event_or none event failed made on happens)
    where
      by : AwayOr none event failed made → content ≡ its
      by (inl away) = absurd cc
      by (inr comes) = let same : comes.0 ≡ its = cc in shows comes.0 comes.1 ∙ same

module _ (count : ℕ) where
  -- what holds of each step of a run
  all_steps : (R : Stepped → Type 0)
      → ((state : WorldState) (event : Event) (failed : Bool) (made : Made) → IsGood count state
      → IsOnCard state.durable.heads.ports.count event → Happens failed state event made
      → R (record { before = state; event = event; failed = failed; made = made }))
      → (came : List Event) (start : WorldState) (taken : List Stepped) (after : WorldState)
      → IsGood count start → AllByRecursion ComesToPort came
      → AllByRecursion (IsOnCard count) came → AreSteps start came taken after
      → AllByRecursion (λ step. IsDurable step.made.state.durable) taken
      → AllByRecursion R taken
  all_steps R each [] start taken after good comes on are keep =
      subst (AllByRecursion R) (sym are.0) tt
  all_steps R each (event ∷ came) start taken after good comes on are keep =
      let item : Shown = shown_of start event are.0 are.1 in
      let kept = subst (AllByRecursion (λ step. IsDurable step.made.state.durable)) are.5 keep in
      let on_it : IsOnCard start.durable.heads.ports.count event =
      subst (λ (n : ℕ). IsOnCard n event) (sym good.ports) on.0 in
      subst (AllByRecursion R) (sym are.5) (
        each start event are.0 are.1 good on_it are.3,
        all_steps R each came are.1.state are.2 after
            (good_after count start item are.1 good (record { comes = comes.0; on = on.0 })
            (are.3, kept.0)) comes.1 on.1 are.4 kept.1,
      )

  each_shows : (P : Stepped → Type 0) (Q : Shown → Type 0) (taken : List Stepped)
      → AllByRecursion (λ step. P step → Q (shown step)) taken → AllByRecursion P taken
      → AllByRecursion Q (map shown taken)
  each_shows P Q [] so each = tt
  each_shows P Q (step ∷ taken) so each = (so.0 each.0, each_shows P Q taken so.1 each.1)

  each_shown : (P : Stepped → Type 0) (Q : Shown → Type 0) (taken : List Stepped)
      → AllByRecursion (λ step. Q (shown step) → P step) taken
      → AllByRecursion Q (map shown taken) → AllByRecursion P taken
  each_shown P Q [] so each = tt
  each_shown P Q (step ∷ taken) so each = (so.0 each.0, each_shown P Q taken so.1 each.1)

  module _ (profile : ℕ) (content : Content) (came : List Event) (start : WorldState)
      (taken : List Stepped) (after : WorldState) (good : IsGood count start)
      (comes : AllByRecursion ComesToPort came) (on : AllByRecursion (IsOnCard count) came)
      (are : AreSteps start came taken after)
      (durable : AllByRecursion (λ step. IsDurable step.made.state.durable) taken) where
    pub run_shows : AllByRecursion (InstallsWith profile content) taken
        → AllByRecursion (ShowsInstall profile content) (map shown taken)
    run_shows =
        each_shows (InstallsWith profile content) (ShowsInstall profile content) taken
        (all_steps (λ step. InstallsWith profile content step
        → ShowsInstall profile content (shown step))
        (λ state event failed made good_now on_it happens.
        shows_install profile state good_now.sound.are content event failed made happens)
        came start taken after good comes on are durable)

    pub run_shown : AllByRecursion (ShowsInstall profile content) (map shown taken)
        → AllByRecursion (InstallsWith profile content) taken
    run_shown =
        each_shown (InstallsWith profile content) (ShowsInstall profile content) taken
        (all_steps (λ step. ShowsInstall profile content (shown step)
        → InstallsWith profile content step)
        (λ state event failed made good_now on_it happens.
        installs_shown profile state good_now.sound.are content event failed made on_it happens)
        came start taken after good comes on are durable)
