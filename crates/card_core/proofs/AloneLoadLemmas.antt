-- The steps of a load beside the card of a profile alone.
use Rattle.std.proofs.Common.{◌≡◌, ◌≢◌, ◌⊎◌, ◌≤◌, ◌+◌, ℕ, Bool, true, false, nat_eq, List}
use Rattle.std.proofs.Common.{Option, Some, None, Result, Ok, Err, refl, sym, ◌∙◌}
use Rattle.std.proofs.Common.{ap, subst, arith, inl, inr, eqb-true}
use Rattle.std.proofs.lemmas.Bool.{eqb-false}
use Rattle.std.specs.Prelude.{slice_index_or}
use Rattle.apdu_codec.specs.Command.{refusal}
use Rattle.file_rows.specs.declared.content.Content.{Content}
use Rattle.isdr_commands.specs.Installation.{install_refusal}
use Rattle.isdr_commands.specs.declared.install.LoadRefusal.{LoadRefusal}
use Rattle.port_table.specs.declared.ports.Ports.{Ports}
use Rattle.profile_card.specs.Card.{Card}
use Rattle.profile_install.specs.declared.work.Refusal.{Refusal}
use Rattle.record_codec.proofs.HeldLemmas.{content_none}
use Rattle.record_codec.proofs.LocalLemmas.{contents_stay}
use Rattle.record_codec.specs.Apply.{apply}
use Rattle.record_codec.specs.Heads.{held_content}
use Rattle.record_codec.specs.IsDurable.{IsDurable}
use Rattle.record_codec.specs.declared.durable.Durable.{Durable}
use Rattle.record_codec.specs.declared.profile.ProfileHead.{ProfileHead}
use Rattle.record_codec.specs.declared.record.Record.TheVariants as records
use Rattle.card_core.proofs.AloneStepLemmas.{GoesBy, put_stays, step_of}
use Rattle.card_core.proofs.AloneLemmas.{IsNow}
use Rattle.card_core.proofs.AloneLemmas.{goes_quiet}
use Rattle.card_core.proofs.AloneLemmas.{leaves_all, standing_below}
use Rattle.card_core.proofs.AloneLemmas.{stays}
use Rattle.card_core.proofs.InstalledLemmas.{put_leaves}
use Rattle.card_core.proofs.KeptLemmas.{held_below}
use Rattle.card_core.proofs.SeenLemmas.{seen_alike}
use Rattle.card_core.specs.Alone.{InstallsWith}
use Rattle.card_core.specs.Load.{EndsBytes, EndsLoad, LoadEnd, begin_made, end_made, installed}
use Rattle.card_core.specs.Load.{installing, load_built, piece_made}
use Rattle.card_core.specs.LoadState.{LoadState}
use Rattle.card_core.specs.Port.{content_on}
use Rattle.card_core.specs.Sound.{IsSoundState}
use Rattle.card_core.specs.Statements.{MakesLoadStep}
use Rattle.card_core.specs.World.{Made, WorldState, card_in, card_on}
use Rattle.card_core.specs.World.{port_in}
use Rattle.card_core.specs.declared.event.Event.{Event}
use Rattle.card_core.specs.declared.event.Event.TheVariants as events
use Rattle.card_core.specs.declared.event.LoadStep.{LoadStep}
use Rattle.card_core.specs.declared.event.LoadStep.TheVariants as steps

-- what the end of a load leaves: what the card kept, or one more profile
abbrev pub IsEnded : Durable → Durable → Type 0
IsEnded durable after =
    (after ≡ durable)
    ⊎ ((head : ProfileHead) × (its : Content)
    × (after ≡ apply durable (records.PutProfile true (installed durable head its) None)))

module _ (durable : Durable) (commit : ℕ) where
  installing_ends : (head : ProfileHead) (its : Content) (refusal : Option LoadRefusal)
      → IsEnded durable (installing durable commit head its refusal).durable
  installing_ends head its (Some refusal) = inl refl
  installing_ends head its None = inr (head, its, refl)

  built_ends : (head : ProfileHead) (answer : Result Content Refusal)
      → IsEnded durable (load_built durable commit head answer).durable
  built_ends head (Err refusal) = inl refl
  built_ends head (Ok its) = installing_ends head its (install_refusal durable.heads head)

  bytes_end : (load : LoadState) (bytes : Option (List ℕ)) (end : LoadEnd)
      → EndsBytes durable commit load bytes end → IsEnded durable end.durable
  bytes_end load None end is =
      subst (λ (its : LoadEnd). IsEnded durable its.durable) (sym is) (inl refl)
  bytes_end load (Some bytes) end gives =
      subst (λ (its : LoadEnd). IsEnded durable its.durable) (sym gives.2)
      (built_ends load.head gives.0)

  pub load_ends : (load : Option LoadState) (end : LoadEnd)
      → EndsLoad durable commit load end → IsEnded durable end.durable
  load_ends None end is =
      subst (λ (its : LoadEnd). IsEnded durable its.durable) (sym is) (inl refl)
  load_ends (Some load) end is = bytes_end load load.received end is

module _ (profile : ℕ) (content : Content) (state : WorldState) (sound : IsSoundState state)
    (card : Card) (now : IsNow profile content state card) where
  abbrev By : Event → Bool → Made → Type 0
  By = GoesBy profile content state sound card now

  -- the end of a load
  module _ (port : ℕ) (end : LoadEnd)
      (installs : state.durable.heads.next_number ≤ profile → InstallsWith profile content
      (step_of profile content state sound card now (events.Load port steps.End) false (end_made state port end)))
      (are : IsDurable end.durable) where
    abbrev ended_made : Made
    ended_made = end_made state port end

    -- the content of a profile that comes
    module _ (head : ProfileHead) (its : Content)
        (is : end.durable ≡ apply state.durable
        (records.PutProfile true (installed state.durable head its) None)) where
      ports_same : end.durable.heads.ports ≡ state.durable.heads.ports
      ports_same = ap (λ (d : Durable). d.heads.ports) is

      next_is : end.durable.heads.next_number ≡ state.durable.heads.next_number + 1
      next_is = ap (λ (d : Durable). d.heads.next_number) is

      content_same : (other : ℕ) → content_on end.durable other ≡ content_on state.durable other
      content_same other =
          ap (λ (d : Durable). content_on d other) is
          ∙ (put_leaves state.durable sound.are head its).1 other

      cards_same : (other : ℕ) → card_in ended_made.state other ≡ card_in state other
      cards_same other =
          ap (λ (one : Content). record {
            content = one;
            session = (port_in ended_made.state other).session;
            mode = end.durable.heads.ports.mode;
            port = Some other;
          }) (content_same other)
          ∙ ap (λ (one : Ports). record {
            content = content_on state.durable other;
            session = (port_in ended_made.state other).session;
            mode = one.mode;
            port = Some other;
          }) ports_same
          ∙ ap (card_on state.durable other)
          (seen_alike (λ one. one.session) state.ports port other _ refl)

      another : state.durable.heads.next_number ≢ profile → IsNow profile content ended_made.state card
      another apart =
          stays profile content state ended_made.state card (record {
            ports = ports_same;
            next = omega (arith, next_is);
            cards = λ other on. cards_same other;
            held = λ nowhere one held.
                sym (ap (held_content profile) is
                ∙ contents_stay state.durable
                (records.PutProfile true (installed state.durable head its) None) profile
                sound.are.contents.pairs apart) ∙ held;
          }) now

      this : state.durable.heads.next_number ≡ profile → IsNow profile content ended_made.state card
      this same = elim now.its [
        | inl at ↦ absurd (standing_below state.durable sound.are profile at.0 at.1
            (omega (arith, same)))
        | inr none ↦ record {
          its = inr (record {
            nowhere = λ other on. none.nowhere other
                (sym (ap (λ (one : Ports). slice_index_or one.on other None) ports_same) ∙ on);
            port = none.port;
            mode = none.mode ∙ ap (λ (one : Ports). one.mode) (sym ports_same);
            content = λ one held.
                now.pending (omega (arith, same))
                ∙ installs (omega (arith, same)) one
                (content_none profile state.durable.heads.profiles state.durable.contents
                (λ is_held. held_below profile state.durable.heads.next_number
                state.durable.heads.profiles sound.are.heads.profiles.below is_held
                (omega (arith, same)))) held;
          });
          pending = λ low. absurd (omega (arith, same, next_is, low));
        }
      ]

      comes : (same : Bool) → nat_eq state.durable.heads.next_number profile ≡ same
          → IsNow profile content ended_made.state card
      comes true is = this (eqb-true state.durable.heads.next_number profile is)
      comes false is = another (eqb-false state.durable.heads.next_number profile is)

    ended : IsEnded state.durable end.durable → IsNow profile content ended_made.state card
    ended (inl kept) =
        stays profile content state ended_made.state card
        (leaves_all profile content state ended_made.state kept
        (λ other. seen_alike (λ its. its.session) state.ports port other _ refl)) now
    ended (inr one) =
        comes one.0 one.1 one.2 (nat_eq state.durable.heads.next_number profile) refl

    pub end_goes : EndsLoad state.durable (state.commits + 1) (port_in state port).load end
        → By (events.Load port steps.End) false ended_made
    end_goes ends =
        goes_quiet profile content (step_of profile content state sound card now (events.Load port steps.End) false ended_made) card refl refl
        (ended (load_ends state.durable (state.commits + 1) (port_in state port).load end ends))

  pub load_goes : (port : ℕ) (step : LoadStep) (made : Made)
      → (state.durable.heads.next_number ≤ profile
      → InstallsWith profile content (step_of profile content state sound card now (events.Load port step) false made))
      → IsDurable made.state.durable → MakesLoadStep state port step made
      → By (events.Load port step) false made
  load_goes port (steps.Begin metadata) made installs are is =
      subst (By (events.Load port (steps.Begin metadata)) false) (sym is)
      (goes_quiet profile content
      (step_of profile content state sound card now (events.Load port (steps.Begin metadata)) false (begin_made state port metadata))
      card refl refl
      (put_stays profile content state sound card now port _ state.shared state.commits refl))
  load_goes port (steps.Piece piece) made installs are is =
      subst (By (events.Load port (steps.Piece piece)) false) (sym is)
      (goes_quiet profile content
      (step_of profile content state sound card now (events.Load port (steps.Piece piece)) false (piece_made state port piece)) card
      refl refl
      (put_stays profile content state sound card now port _ state.shared state.commits refl))
  load_goes port steps.End made installs are ends =
      subst (By (events.Load port steps.End) false) (sym ends.2)
      (end_goes port ends.0
      (λ low. subst (λ (its : Made). InstallsWith profile content
      (step_of profile content state sound card now (events.Load port steps.End) false its)) ends.2 (installs low))
      (subst (λ (its : Made). IsDurable its.state.durable) ends.2 are) ends.1)
