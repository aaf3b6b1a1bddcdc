-- Each statement but those for the ISD-R beside the card of a profile alone.
use Rattle.std.proofs.Common.{◌≡◌, ◌≢◌, ◌⊎◌, ◌<◌, ◌+◌, ℕ, Bool, true, false, cond, nat_eq, List, []}
use Rattle.std.proofs.Common.{◌∷◌, ◌++◌, length, Option, Some, None, Result, Ok, Err, refl, sym}
use Rattle.std.proofs.Common.{◌∙◌}
use Rattle.std.proofs.Common.{ap, subst, arith, inl, inr, eqb-true}
use Rattle.std.proofs.Common.{append-nil}
use Rattle.std.proofs.lemmas.Bool.{eqb-false}
use Rattle.std.proofs.lemmas.Option.{slice_get_within}
use Rattle.std.specs.List.{flat_map}
use Rattle.std.specs.Prelude.{slice_index_or, slice_set}
use Rattle.apdu_codec.specs.Answer.{status_alone}
use Rattle.apdu_codec.specs.Command.{Apdu, Spells, refusal}
use Rattle.apdu_codec.specs.declared.answers.Answer.{Answer}
use Rattle.apdu_codec.specs.declared.status.Sw.{Sw}
use Rattle.file_rows.specs.declared.change.Change.{Change}
use Rattle.file_rows.specs.declared.content.Content.{Content}
use Rattle.lsi_refresh.specs.Lsi.{lsi_of}
use Rattle.lsi_refresh.specs.declared.lsi.Lsi.{Lsi}
use Rattle.lsi_refresh.specs.declared.lsi.Lsi.TheVariants as lsi
use Rattle.profile_card.specs.Card.{Card}
use Rattle.profile_card.specs.Commands.{decision}
use Rattle.profile_card.specs.Own.{is_common}
use Rattle.profile_card.specs.Step.{Event as CardEvent, Outcome, Steps, carried_out, silent}
use Rattle.profile_card.specs.Step.Event.{Command, Power as PowerCycle, Reset as Restart}
use Rattle.record_codec.specs.IsDurable.{IsDurable}
use Rattle.record_codec.specs.declared.durable.Heads.{Heads}
use Rattle.uicc_channels.specs.CommandOutcome.{refused}
use Rattle.card_core.proofs.AloneLemmas.{Goes, IsNow, Leaves, bytes_here, bytes_not_here}
use Rattle.card_core.proofs.AloneLemmas.{given_here}
use Rattle.card_core.proofs.AloneLemmas.{given_not, goes_answered, goes_given, goes_quiet}
use Rattle.card_core.proofs.AloneLemmas.{goes_told}
use Rattle.card_core.proofs.AloneLemmas.{leaves_all, now_at, one_port}
use Rattle.card_core.proofs.AloneLemmas.{stays, steps_nowhere}
use Rattle.card_core.proofs.CameLemmas.{state_with}
use Rattle.card_core.proofs.CardStepLemmas.{foreign_steps, own_elsewhere, own_steps, power_steps}
use Rattle.card_core.proofs.CardStepLemmas.{reset_steps}
use Rattle.card_core.proofs.MovedLemmas.{stands}
use Rattle.card_core.proofs.SeenLemmas.{seen_alike}
use Rattle.card_core.proofs.SoundLemmas.{sound_card}
use Rattle.card_core.proofs.StayLemmas.{heads_where, held_elsewhere, other_port}
use Rattle.card_core.proofs.StepShareLemmas.{SharesOwn, entry_gives, lines_given, share_of_command}
use Rattle.card_core.specs.Failed.{FailsWith, FailsLoadWith, failed_begin, failed_command}
use Rattle.card_core.specs.Failed.{failed_end}
use Rattle.card_core.specs.Failed.{failed_piece}
use Rattle.card_core.specs.ManageLsi.{counted_at, lsi_asked_for, lsi_made, lsi_reset}
use Rattle.card_core.specs.OwnCommand.{own_made}
use Rattle.card_core.specs.Port.{profile_on}
use Rattle.card_core.specs.PortReset.{reset_made}
use Rattle.card_core.specs.PortState.{PortState, counted}
use Rattle.card_core.specs.Share.{answers_in, given_by_lsi, given_there, no_share}
use Rattle.card_core.specs.Sound.{IsSoundState}
use Rattle.card_core.specs.Stepped.{Stepped}
use Rattle.card_core.specs.World.{Made, WorldState, answered_alone, card_in, card_on, entry_at}
use Rattle.card_core.specs.World.{next_maker, opened, port_in}
use Rattle.card_core.specs.declared.entry.Entry.{Entry}
use Rattle.card_core.specs.declared.entry.Line.TheVariants.{ForeignReset}
use Rattle.card_core.specs.declared.event.Event.{Event}
use Rattle.card_core.specs.declared.event.Event.TheVariants as events
use Rattle.card_core.specs.declared.event.LoadStep.{LoadStep}
use Rattle.card_core.specs.declared.event.LoadStep.TheVariants as steps

-- a profile stands at a place or doesn't
pub here_or_not : (profile : ℕ) (on : Option ℕ) → (on ≡ Some profile) ⊎ (on ≢ Some profile)
here_or_not profile None = inr (λ same. cc)
here_or_not profile (Some other) = by (nat_eq other profile) refl
  where
    by : (same : Bool) → nat_eq other profile ≡ same
        → (Some other ≡ Some profile) ⊎ (Some other ≢ Some profile)
    by true is = inl (ap (λ (n : ℕ). Some n) (eqb-true other profile is))
    by false is = inr (λ same. eqb-false other profile is (cc))

module _ (profile : ℕ) (content : Content) (state : WorldState) (sound : IsSoundState state)
    (card : Card) (now : IsNow profile content state card) where
  abbrev pub step_of : Event → Bool → Made → Stepped
  step_of event failed made =
      record { before = state; event = event; failed = failed; made = made }

  abbrev pub GoesBy : Event → Bool → Made → Type 0
  GoesBy event failed made = Goes profile content (step_of event failed made) card

  -- where the profile stands on a port its card is the one there
  pub card_here : (port : ℕ) → profile_on state.durable port ≡ Some profile
      → card ≡ card_in state port
  card_here port on = elim now.its [
    | inl at ↦ at.2 ∙ ap (card_in state) (one_port state.durable sound.are profile at.0 port at.1 on)
    | inr none ↦ absurd (none.nowhere port on)
  ]

  step_here : (port : ℕ) (event : CardEvent) (outcome : Outcome)
      → profile_on state.durable port ≡ Some profile
      → Steps (card_in state port) event outcome → Steps card event outcome
  step_here port event outcome on is =
      subst (λ (its : Card). Steps its event outcome) (sym (card_here port on)) is

  -- a port with a profile is one of the card's
  pub port_below : (port : ℕ) → profile_on state.durable port ≡ Some profile
      → port < length state.ports
  port_below port on =
      let within : port < length state.durable.heads.ports.on =
      slice_get_within state.durable.heads.ports.on port (Some profile)
      (stands state.durable.heads.ports.on port profile on) in
      let places : length state.durable.heads.ports.on ≡ state.durable.heads.ports.count =
      sound.are.heads.ports.rule.count in
      let ports : length state.ports ≡ state.durable.heads.ports.count = sound.count in
      omega (arith, within, places, ports)

  -- a port that is put with the session that it had
  pub put_stays : (port : ℕ) (put : PortState) (shared commits : ℕ)
      → put.session ≡ (port_in state port).session
      → IsNow profile content
      (state_with state.durable (slice_set state.ports port put) shared commits) card
  put_stays port put shared commits same =
      stays profile content state _ card
      (leaves_all profile content state
      (state_with state.durable (slice_set state.ports port put) shared commits) refl
      (λ other. seen_alike (λ its. its.session) state.ports port other put same)) now

  -- bytes that spell no command
  pub unspelled_goes : (port : ℕ) (bytes : List ℕ) → ((c : Apdu) → ¬ Spells bytes c)
      → GoesBy (events.Apdu port bytes) false
      (answered_alone state port (status_alone (refusal bytes)))
  unspelled_goes port bytes none =
      elim (here_or_not profile (profile_on state.durable port)) [
        | inl on ↦ goes_answered profile content step card (Command bytes)
            (carried_out (card_in state port) (refused (port_in state port).session (refusal bytes)))
            (status_alone (refusal bytes))
            (bytes_here profile content step port bytes _ on (inr (none, refl))) refl
            (step_here port (Command bytes) _ on (inr (none, refl))) refl
            (now_at profile content made.state _ port sound.are on
            (ap (card_on state.durable port) (sym (seen_alike (λ its. its.session) state.ports port
            port (counted (port_in state port)) refl))))
        | inr apart ↦ goes_quiet profile content step card
            (bytes_not_here profile content step port bytes apart) refl
            (put_stays port (counted (port_in state port)) state.shared state.commits refl)
      ]
    where
      made : Made
      made = answered_alone state port (status_alone (refusal bytes))

      step : Stepped
      step = step_of (events.Apdu port bytes) false made

  -- a command that the card of its port answers
  pub own_goes : (port : ℕ) (bytes : List ℕ) (c : Apdu) → Spells bytes c
      → is_common (port_in state port).session c ≡ false → port < length state.ports
      → IsDurable (own_made state port c).state.durable
      → GoesBy (events.Apdu port bytes) false (own_made state port c)
  own_goes port bytes c spelled own below are =
      elim (here_or_not profile (profile_on state.durable port)) [
        | inl on ↦ goes_answered profile content step card (Command bytes) outcome outcome_answer
            (bytes_here profile content step port bytes _ on (inl (c, spelled, share_is))) refl
            (step_here port (Command bytes) outcome on
            (own_steps state port below bytes c (sound_card state sound port) spelled)) refl
            (now_at profile content made.state outcome.card port are
            (ap (λ (its : Heads). slice_index_or its.ports.on port None) heads ∙ on) refl)
        | inr apart ↦ goes_quiet profile content step card
            (bytes_not_here profile content step port bytes apart) refl
            (stays profile content state made.state card (leaves apart) now)
      ]
    where
      made : Made
      made = own_made state port c

      step : Stepped
      step = step_of (events.Apdu port bytes) false made

      change : Option Change
      change = (decision (card_in state port) c).change

      outcome_answer : Answer
      outcome_answer = (decision (card_in state port) c).answer

      outcome : Outcome
      outcome = record {
        answer = Some outcome_answer;
        card = card_in made.state port;
        change = change;
      }

      heads : made.state.durable.heads ≡ state.durable.heads
      heads = heads_where state.durable port change

      share_is : record { given = Command bytes ∷ []; answers = outcome_answer ∷ [] }
          ≡ share_of_command step port bytes c
      share_is =
          ap (λ (common : Bool). cond common (record {
            given = cond (nat_eq c.ins 0x7A)
                (given_by_lsi port (lsi_of c state.durable.heads.ports.count)) [];
            answers = [];
          }) (record { given = Command bytes ∷ []; answers = outcome_answer ∷ [] })) (sym own)

      leaves : profile_on state.durable port ≢ Some profile → Leaves profile content state made.state
      leaves apart = record {
        ports = ap (λ (its : Heads). its.ports) heads;
        next =
            let same : made.state.durable.heads.next_number ≡ state.durable.heads.next_number =
            ap (λ (its : Heads). its.next_number) heads in omega (arith, same);
        cards = λ other on. own_elsewhere state port other c sound.are
            (λ same. apart (ap (profile_on state.durable) (sym same) ∙ on));
        held = λ nowhere its held.
            sym (held_elsewhere state.durable sound.are port change profile apart) ∙ held;
      }

  -- a reset of a port by its own statement
  pub reset_goes : (port : ℕ) → port < length state.ports
      → GoesBy (events.Reset port) false (reset_made state port)
  reset_goes port below =
      elim (here_or_not profile (profile_on state.durable port)) [
        | inl on ↦ goes_told profile content step card (card_in made.state port) Restart refl
            (ap (λ (its : List CardEvent). its ++ [])
            (given_here profile (profile_on state.durable port) (Restart ∷ []) on))
            (step_here port Restart _ on (reset_steps state port below))
            (now_at profile content made.state _ port sound.are on refl)
        | inr apart ↦ goes_quiet profile content step card refl
            (ap (λ (its : List CardEvent). its ++ [])
            (given_not profile (profile_on state.durable port) (Restart ∷ []) apart))
            (stays profile content state made.state card (leaves apart) now)
      ]
    where
      made : Made
      made = reset_made state port

      step : Stepped
      step = step_of (events.Reset port) false made

      leaves : profile_on state.durable port ≢ Some profile → Leaves profile content state made.state
      leaves apart = record {
        ports = refl;
        next = omega arith;
        cards = λ other on. ap (λ (its : PortState). card_on state.durable other its.session)
            (other_port state.ports port other _
            (λ same. apart (ap (profile_on state.durable) (sym same) ∙ on)));
        held = λ nowhere its held. held;
      }

  -- a power cycle
  pub power_goes : GoesBy events.Power false
      (record { state = opened state.durable; entries = [] })
  power_goes = elim now.its [
    | inl at ↦ goes_given profile content step card (card_in (opened state.durable) at.0) PowerCycle
        refl refl (step_here at.0 PowerCycle _ at.1 (power_steps state at.0))
        (now_at profile content (opened state.durable) _ at.0 sound.are at.1 refl)
    | inr none ↦ goes_given profile content step card card PowerCycle refl refl
        (steps_nowhere card PowerCycle (silent card) none.port refl)
        (record {
          its = inr (record {
            nowhere = none.nowhere;
            port = none.port;
            mode = none.mode;
            content = none.content;
          });
          pending = now.pending;
        })
  ]
    where
      step : Stepped
      step = step_of events.Power false (record { state = opened state.durable; entries = [] })

  -- MANAGE LSI: its answer is no profile's, and a port that it resets is told by a line or is its own
  module _ (came : ℕ) (bytes : List ℕ) (c : Apdu) (spelled : Spells bytes c)
      (common : is_common (port_in state came).session c ≡ true)
      (is_lsi : nat_eq c.ins 0x7A ≡ true) where
    abbrev asked : Result Lsi Sw
    asked = lsi_of c state.durable.heads.ports.count

    abbrev lsi_step : Made → Stepped
    lsi_step made = step_of (events.Apdu came bytes) false made

    lsi_share : (made : Made) → record { given = given_by_lsi came asked; answers = [] }
        ≡ share_of_command (lsi_step made) came bytes c
    lsi_share made =
        ap (λ (its : Bool). record { given = cond its (given_by_lsi came asked) []; answers = [] })
        (sym is_lsi)
        ∙ ap (λ (its : Bool). cond its (record {
          given = cond (nat_eq c.ins 0x7A) (given_by_lsi came asked) [];
          answers = [];
        }) (record { given = Command bytes ∷ []; answers = answers_in made.entries })) (sym common)

    -- where it asks for no reset of the port of the profile, it gives the profile nothing
    lsi_nothing : (made : Made) (its : Result Lsi Sw) → asked ≡ its
        → (profile_on state.durable came ≡ Some profile → given_by_lsi came its ≡ [])
        → SharesOwn profile (lsi_step made) false no_share
    lsi_nothing made its is none =
        elim (here_or_not profile (profile_on state.durable came)) [
          | inl on ↦ bytes_here profile content (lsi_step made) came bytes no_share on
              (inl (
                c,
                spelled,
                ap (λ (given : List CardEvent). record {
                  given = given;
                  answers = [];
                }) (sym (ap (given_by_lsi came) is ∙ none on)) ∙ lsi_share made,
              ))
          | inr apart ↦ bytes_not_here profile content (lsi_step made) came bytes apart
        ]

    -- the port that it resets
    module _ (port : ℕ) (is : asked ≡ Ok (lsi.Reset port)) where
      abbrev done : Made
      done = lsi_reset state came port

      leaves : profile_on state.durable port ≢ Some profile → Leaves profile content state done.state
      leaves apart = record {
        ports = refl;
        next = omega arith;
        cards = λ other on. ap (λ (its : PortState). card_on state.durable other its.session)
            (other_port (counted_at state came).ports port other _
            (λ same. apart (ap (profile_on state.durable) (sym same) ∙ on)))
            ∙ ap (card_on state.durable other) (seen_alike (λ its. its.session) state.ports came other
            (counted (port_in state came)) refl);
        held = λ nowhere its held. held;
      }

      line_gives : lines_given profile (lsi_step done) ≡ cond (nat_eq port came) []
          (given_there profile (profile_on state.durable port) (Restart ∷ []))
      line_gives = by (nat_eq port came)
        where
          line : Entry
          line = entry_at state port (ForeignReset (next_maker state came))

          by : (same : Bool) → flat_map (entry_gives profile state) (cond same [] (line ∷ []))
              ≡ cond same [] (given_there profile (profile_on state.durable port) (Restart ∷ []))
          by true = refl
          by false =
              append-nil (given_there profile (profile_on state.durable port) (Restart ∷ []))

      not_own : profile_on state.durable port ≢ Some profile
          → profile_on state.durable came ≡ Some profile
          → given_by_lsi came (Ok (lsi.Reset port)) ≡ []
      not_own apart on = by (nat_eq port came) refl
        where
          by : (same : Bool) → nat_eq port came ≡ same → cond same (Restart ∷ []) [] ≡ []
          by true same =
              absurd (apart (ap (profile_on state.durable) (eqb-true port came same) ∙ on))
          by false same = refl

      no_lines : profile_on state.durable port ≢ Some profile
          → lines_given profile (lsi_step done) ≡ []
      no_lines apart =
          line_gives
          ∙ ap (λ (its : List CardEvent). cond (nat_eq port came) [] its)
          (given_not profile (profile_on state.durable port) (Restart ∷ []) apart)
          ∙ both (nat_eq port came)
        where
          both : (same : Bool) → cond {A = List CardEvent} same [] [] ≡ []
          both true = refl
          both false = refl

      reset_here : profile_on state.durable port ≡ Some profile → (same : Bool)
          → nat_eq port came ≡ same → port < length state.ports
          → GoesBy (events.Apdu came bytes) false done
      reset_here on true same below =
          goes_given profile content (lsi_step done) card (card_in done.state port) Restart
          (bytes_here profile content (lsi_step done) came bytes _
          (ap (profile_on state.durable) (sym (eqb-true port came same)) ∙ on)
          (inl (
            c,
            spelled,
            ap (λ (given : List CardEvent). record { given = given; answers = [] })
                (sym (ap (given_by_lsi came) is
                ∙ ap (λ (its : Bool). cond its (Restart ∷ []) []) same)) ∙ lsi_share done,
          )))
          (line_gives ∙ ap (λ (its : Bool). cond its []
          (given_there profile (profile_on state.durable port) (Restart ∷ []))) same)
          (step_here port Restart _ on (foreign_steps state port below came))
          (now_at profile content done.state _ port sound.are on refl)
      reset_here on false same below =
          goes_told profile content (lsi_step done) card (card_in done.state port) Restart
          (bytes_not_here profile content (lsi_step done) came bytes (λ there.
          eqb-false port came same (one_port state.durable sound.are profile port came on there)))
          (line_gives ∙ ap (λ (its : Bool). cond its []
          (given_there profile (profile_on state.durable port) (Restart ∷ []))) same
          ∙ given_here profile (profile_on state.durable port) (Restart ∷ []) on)
          (step_here port Restart _ on (foreign_steps state port below came))
          (now_at profile content done.state _ port sound.are on refl)

      reset_goes_at : GoesBy (events.Apdu came bytes) false done
      reset_goes_at =
          elim (here_or_not profile (profile_on state.durable port)) [
            | inl on ↦ reset_here on (nat_eq port came) refl (port_below port on)
            | inr apart ↦ goes_quiet profile content (lsi_step done) card
                (lsi_nothing done (Ok (lsi.Reset port)) is (not_own apart)) (no_lines apart)
                (stays profile content state done.state card (leaves apart) now)
          ]

    lsi_goes_by : (its : Result Lsi Sw) → asked ≡ its
        → GoesBy (events.Apdu came bytes) false (lsi_asked_for state came its)
    lsi_goes_by (Ok lsi.Count) is =
        goes_quiet profile content (lsi_step (lsi_asked_for state came (Ok lsi.Count))) card
        (lsi_nothing (lsi_asked_for state came (Ok lsi.Count)) (Ok lsi.Count) is (λ on. refl)) refl
        (put_stays came (counted (port_in state came)) state.shared state.commits refl)
    lsi_goes_by (Ok (lsi.Reset port)) is = reset_goes_at port is
    lsi_goes_by (Err sw) is =
        goes_quiet profile content (lsi_step (lsi_asked_for state came (Err sw))) card
        (lsi_nothing (lsi_asked_for state came (Err sw)) (Err sw) is (λ on. refl)) refl
        (put_stays came (counted (port_in state came)) state.shared state.commits refl)

    pub lsi_goes : GoesBy (events.Apdu came bytes) false (lsi_made state came c)
    lsi_goes = lsi_goes_by asked refl

  failed_load_goes : (port : ℕ) (step : LoadStep) (made : Made)
      → FailsLoadWith state port step made → GoesBy (events.Load port step) true made
  failed_load_goes port (steps.Begin metadata) made is =
      subst (GoesBy (events.Load port (steps.Begin metadata)) true) (sym is)
      (goes_quiet profile content
      (step_of (events.Load port (steps.Begin metadata)) true (failed_begin state port)) card refl
      refl
      (put_stays port _ state.shared state.commits refl))
  failed_load_goes port (steps.Piece piece) made is =
      subst (GoesBy (events.Load port (steps.Piece piece)) true) (sym is)
      (goes_quiet profile content
      (step_of (events.Load port (steps.Piece piece)) true (failed_piece state port)) card refl
      refl
      (put_stays port _ state.shared state.commits refl))
  failed_load_goes port steps.End made ends =
      subst (GoesBy (events.Load port steps.End) true) (sym ends.1)
      (goes_quiet profile content
      (step_of (events.Load port steps.End) true (failed_end state port ends.0)) card refl refl
      (put_stays port _ (state.shared + 1) _ refl))

  -- what failed gives the profile nothing
  pub fails_goes : (event : Event) (made : Made) → FailsWith state event made
      → GoesBy event true made
  fails_goes (events.Apdu port bytes) made is =
      subst (GoesBy (events.Apdu port bytes) true) (sym is.3)
      (goes_quiet profile content
      (step_of (events.Apdu port bytes) true (failed_command state port is.0 is.1)) card refl
      refl
      (put_stays port _ _ state.commits refl))
  fails_goes (events.Reset port) made is = absurd is
  fails_goes (events.Load port step) made is = failed_load_goes port step made is
  fails_goes events.Power made is = absurd is
