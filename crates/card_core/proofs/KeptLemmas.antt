-- The content of a profile on no port stays until a request deletes it.
use Rattle.std.proofs.Common.{◌≡◌, ◌≢◌, ◌≤◌, ◌<◌, ◌+◌, ◌⊎◌, ℕ, Bool, true, false, nat_eq, cond}
use Rattle.std.proofs.Common.{arith, List, [], ◌∷◌}
use Rattle.std.proofs.Common.{Option, Some, None, Result, Ok, Err, refl, sym, ◌∙◌, subst, inl, inr}
use Rattle.std.proofs.lemmas.Bool.{true≢false}
use Rattle.std.specs.List.{AllByRecursion}
use Rattle.std.specs.Prelude.{IfSome}
use Rattle.apdu_codec.specs.Command.{Apdu}
use Rattle.apdu_codec.specs.declared.status.Sw.{Sw}
use Rattle.file_rows.specs.declared.content.Content.{Content}
use Rattle.isdr_commands.specs.Installation.{install_refusal}
use Rattle.isdr_commands.specs.declared.install.LoadRefusal.{LoadRefusal}
use Rattle.lsi_refresh.specs.Lsi.{lsi_of}
use Rattle.lsi_refresh.specs.declared.lsi.Lsi.{Lsi}
use Rattle.lsi_refresh.specs.declared.lsi.Lsi.TheVariants.{Count, Reset}
use Rattle.notify_list.proofs.NoteLemmas.{any_of_none}
use Rattle.profile_card.specs.Commands.{decision}
use Rattle.profile_card.specs.Own.{is_common}
use Rattle.profile_install.specs.declared.work.Refusal.{Refusal}
use Rattle.record_codec.proofs.LocalLemmas.{contents_stay}
use Rattle.record_codec.specs.Gone.{is_among}
use Rattle.record_codec.specs.Heads.{IsHeld, held_content}
use Rattle.record_codec.specs.IsDurable.{IsDurable}
use Rattle.record_codec.specs.declared.durable.Durable.{Durable}
use Rattle.record_codec.specs.declared.profile.ProfileHead.{ProfileHead}
use Rattle.record_codec.specs.declared.record.Record.{Record}
use Rattle.record_codec.specs.declared.record.Record.TheVariants as records
use Rattle.card_core.proofs.CarriedLemmas.{IsOfRequest, desk_carried}
use Rattle.card_core.proofs.MovedLemmas.{not_held}
use Rattle.card_core.proofs.StayLemmas.{held_elsewhere}
use Rattle.card_core.specs.Desk.{desk_outcome}
use Rattle.card_core.specs.IsdrCommand.{busy_of, isdr_made}
use Rattle.card_core.specs.Load.{EndsBytes, EndsLoad, LoadEnd, installed, installing}
use Rattle.card_core.specs.Load.{load_built}
use Rattle.card_core.specs.LoadState.{LoadState}
use Rattle.card_core.specs.ManageLsi.{lsi_asked_for, lsi_made}
use Rattle.card_core.specs.OwnCommand.{own_made}
use Rattle.card_core.specs.Port.{profile_on}
use Rattle.card_core.specs.Recorded.{recorded}
use Rattle.card_core.specs.Run.{IsOnCard}
use Rattle.card_core.specs.Statements.{AnswersBytes, Makes, MakesLoadStep, command_made}
use Rattle.card_core.specs.World.{Made, WorldState, card_in, port_in}
use Rattle.card_core.specs.declared.event.Event.{Event}
use Rattle.card_core.specs.declared.event.Event.TheVariants as events
use Rattle.card_core.specs.declared.event.LoadStep.{LoadStep}
use Rattle.card_core.specs.declared.event.LoadStep.TheVariants as steps

-- a number that is held is below the next one
pub held_below : (profile next : ℕ) (profiles : List ProfileHead)
    → AllByRecursion (λ head. head.number < next) profiles → IsHeld profile profiles
    → next ≤ profile → ⊥
held_below profile next profiles below held low =
    any_of_none (λ (head : ProfileHead). head.number ≡ profile) profiles (each profiles below) held
  where
    each : (heads : List ProfileHead) → AllByRecursion (λ head. head.number < next) heads
        → AllByRecursion (λ (head : ProfileHead). head.number ≡ profile → ⊥) heads
    each [] all = tt
    each (head ∷ heads) all = (
      λ same. let less : head.number < next = all.0 in omega (arith, less, same, low),
      each heads all.1,
    )

pub not_next : (next : ℕ) (profiles : List ProfileHead)
    → AllByRecursion (λ head. head.number < next) profiles → IsHeld next profiles → ⊥
not_next next profiles below held = held_below next next profiles below held (omega arith)

module _ (durable : Durable) (are : IsDurable durable) (profile : ℕ)
    (held : IsHeld profile durable.heads.profiles) where
  -- its content is as it was, or it is held no more
  abbrev pub StaysOrGoes : Durable → Type 0
  StaysOrGoes after =
      (held_content profile after ≡ held_content profile durable)
      ⊎ (IsHeld profile after.heads.profiles → ⊥)

  gone : (numbers : List ℕ) (among : Bool) → is_among numbers profile ≡ among
      → StaysOrGoes (recorded durable (Some (records.Gone numbers)))
  gone numbers true is = inr (not_held numbers profile is durable.heads.profiles)
  gone numbers false is =
      inl (contents_stay durable (records.Gone numbers) profile are.contents.pairs
      (λ among. absurd (true≢false (sym among ∙ is))))

  by_entry : (entry : Option Record) → IfSome entry IsOfRequest
      → StaysOrGoes (recorded durable entry)
  by_entry None kind = inl refl
  by_entry (Some (records.PutCard mode ports eid next_number next_note notes)) kind = absurd kind
  by_entry (Some (records.PutProfile installation put port)) kind = absurd kind
  by_entry (Some (records.Content other change)) kind = absurd kind
  by_entry (Some (records.Bind bound port displaced)) kind = inl refl
  by_entry (Some (records.Unbind bound)) kind = inl refl
  by_entry (Some (records.Gone numbers)) kind = gone numbers (is_among numbers profile) refl
  by_entry (Some (records.Name named nickname)) kind =
      inl (contents_stay durable (records.Name named nickname) profile are.contents.pairs
      (λ touches. touches))
  by_entry (Some (records.NoteGone number)) kind = inl refl

  installing_stays : (commit : ℕ) (head : ProfileHead) (content : Content)
      (refusal : Option LoadRefusal)
      → StaysOrGoes (installing durable commit head content refusal).durable
  installing_stays commit head content (Some refusal) = inl refl
  installing_stays commit head content None =
      inl (contents_stay durable
      (records.PutProfile true (installed durable head content) None) profile are.contents.pairs
      (λ same. not_next durable.heads.next_number durable.heads.profiles are.heads.profiles.below
      (subst (λ (number : ℕ). IsHeld number durable.heads.profiles) (sym same) held)))

  built_stays : (commit : ℕ) (head : ProfileHead) (answer : Result Content Refusal)
      → StaysOrGoes (load_built durable commit head answer).durable
  built_stays commit head (Err refusal) = inl refl
  built_stays commit head (Ok content) =
      installing_stays commit head content (install_refusal durable.heads head)

  bytes_stay : (commit : ℕ) (load : LoadState) (bytes : Option (List ℕ)) (end : LoadEnd)
      → EndsBytes durable commit load bytes end → StaysOrGoes end.durable
  bytes_stay commit load None end is =
      subst (λ (its : LoadEnd). StaysOrGoes its.durable) (sym is) (inl refl)
  bytes_stay commit load (Some bytes) end gives =
      subst (λ (its : LoadEnd). StaysOrGoes its.durable) (sym gives.2)
      (built_stays commit load.head gives.0)

  end_stays : (commit : ℕ) (load : Option LoadState) (end : LoadEnd)
      → EndsLoad durable commit load end → StaysOrGoes end.durable
  end_stays commit None end is =
      subst (λ (its : LoadEnd). StaysOrGoes its.durable) (sym is) (inl refl)
  end_stays commit (Some load) end is = bytes_stay commit load load.received end is

module _ (state : WorldState) (are : IsDurable state.durable) (profile : ℕ)
    (held : IsHeld profile state.durable.heads.profiles)
    (nowhere : (port : ℕ) → profile_on state.durable port ≢ Some profile) where
  abbrev Kept : Made → Type 0
  Kept made = StaysOrGoes state.durable are profile held made.state.durable

  asked_keeps : (port : ℕ) (asked : Result Lsi Sw) → Kept (lsi_asked_for state port asked)
  asked_keeps port (Ok Count) = inl refl
  asked_keeps port (Ok (Reset other)) = inl refl
  asked_keeps port (Err sw) = inl refl

  isdr_keeps : (port : ℕ) (c : Apdu) → port < state.durable.heads.ports.count
      → Kept (isdr_made state port c)
  isdr_keeps port c below =
      by_entry state.durable are profile held
      (desk_outcome (port_in state port).desk state.durable.heads (busy_of state.ports) port c).entry
      (desk_carried state.durable are (busy_of state.ports) port below
      (port_in state port).desk c).kind

  own_keeps : (port : ℕ) (c : Apdu) → Kept (own_made state port c)
  own_keeps port c =
      inl (held_elsewhere state.durable are port (decision (card_in state port) c).change profile
      (nowhere port))

  command_keeps : (port : ℕ) (c : Apdu) → port < state.durable.heads.ports.count
      → Kept (command_made state port c)
  command_keeps port c below = by (is_common (port_in state port).session c) (nat_eq c.ins 0x7A)
    where
      by : (common lsi : Bool) → Kept (cond common
          (cond lsi (lsi_made state port c) (isdr_made state port c)) (own_made state port c))
      by true true = asked_keeps port (lsi_of c state.durable.heads.ports.count)
      by true false = isdr_keeps port c below
      by false lsi = own_keeps port c

  bytes_keep : (port : ℕ) (bytes : List ℕ) (made : Made)
      → port < state.durable.heads.ports.count → AnswersBytes state port bytes made → Kept made
  bytes_keep port bytes made below (inl spelled) =
      subst Kept (sym spelled.2) (command_keeps port spelled.0 below)
  bytes_keep port bytes made below (inr none) = subst Kept (sym none.1) (inl refl)

  step_keeps : (port : ℕ) (step : LoadStep) (made : Made) → MakesLoadStep state port step made
      → Kept made
  step_keeps port (steps.Begin metadata) made is = subst Kept (sym is) (inl refl)
  step_keeps port (steps.Piece piece) made is = subst Kept (sym is) (inl refl)
  step_keeps port steps.End made ends =
      subst Kept (sym ends.2)
      (end_stays state.durable are profile held (state.commits + 1) (port_in state port).load ends.0
      ends.1)

  pub event_keeps : (event : Event) (made : Made)
      → IsOnCard state.durable.heads.ports.count event → Makes state event made → Kept made
  event_keeps (events.Apdu port bytes) made on is = bytes_keep port bytes made on is
  event_keeps (events.Reset port) made on is = subst Kept (sym is) (inl refl)
  event_keeps (events.Load port step) made on is = step_keeps port step made is
  event_keeps events.Power made on is = subst Kept (sym is) (inl refl)
