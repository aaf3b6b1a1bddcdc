-- Neighbours at different ports change places.
use Rattle.std.proofs.Common.{◌≡◌, ◌≢◌, ◌+◌, ℕ, Bool, true, false, cond, nat_eq, List, [], ◌∷◌}
use Rattle.std.proofs.Common.{Option, Some, None, refl, sym, ◌∙◌, ap, subst, arith, eqb-true}
use Rattle.std.proofs.lemmas.List.{set_comm}
use Rattle.std.specs.Prelude.{IfSome, is_some, slice_index_or, slice_set}
use Rattle.file_rows.specs.Change.{Fits, changed}
use Rattle.file_rows.specs.declared.change.Change.{Change}
use Rattle.file_rows.specs.declared.content.Content.{Content}
use Rattle.profile_card.specs.Card.{IsSound}
use Rattle.record_codec.specs.Content.{contents_with}
use Rattle.record_codec.specs.IsDurable.{IsDurable}
use Rattle.record_codec.specs.declared.durable.Durable.{Durable}
use Rattle.record_codec.specs.declared.durable.Heads.{Heads}
use Rattle.record_codec.specs.declared.profile.ProfileHead.{ProfileHead}
use Rattle.card_core.proofs.AloneLemmas.{one_port}
use Rattle.card_core.proofs.CameLemmas.{state_with}
use Rattle.card_core.proofs.CountedLemmas.{counted_local}
use Rattle.card_core.proofs.LocalLemmas.{IsLocal, IsOwnLine, LocalMade, local_made}
use Rattle.card_core.proofs.LocalLemmas.{stays_local}
use Rattle.card_core.proofs.SoundLemmas.{sound_card}
use Rattle.card_core.proofs.SoundLoadLemmas.{changed_are}
use Rattle.card_core.proofs.StayLemmas.{heads_by}
use Rattle.card_core.proofs.StretchLemmas.{local_stays}
use Rattle.card_core.specs.OwnCommand.{changed_where}
use Rattle.card_core.specs.Port.{content_on, profile_on, with_change_of}
use Rattle.card_core.specs.PortState.{PortState}
use Rattle.card_core.specs.Sound.{IsSoundState}
use Rattle.card_core.specs.Stepped.{Happens}
use Rattle.card_core.specs.Stretch.{ChangePlaces, IsMadeAt, PortView, StaysAt, is_for, view_at}
use Rattle.card_core.specs.World.{Made, WorldState, card_in, count_if, port_in}
use Rattle.card_core.specs.declared.event.Event.{Event}

-- changes of the contents of two profiles, in either order
contents_commute : (one other : ℕ) (f g : Content → Content) → one ≢ other
    → (heads : List ProfileHead) (contents : List Content)
    → contents_with other g heads (contents_with one f heads contents)
    ≡ contents_with one f heads (contents_with other g heads contents)
contents_commute one other f g apart [] contents = refl
contents_commute one other f g apart (head ∷ heads) [] = refl
contents_commute one other f g apart (head ∷ heads) (content ∷ contents) =
    ap (λ (its : Content). its
    ∷ contents_with other g heads (contents_with one f heads contents))
    (by (nat_eq head.number one) (nat_eq head.number other) refl refl)
    ∙ ap (λ (rest : List Content). cond (nat_eq head.number one)
    (f (cond (nat_eq head.number other) (g content) content))
    (cond (nat_eq head.number other) (g content) content) ∷ rest)
    (contents_commute one other f g apart heads contents)
  where
    by : (first second : Bool) → nat_eq head.number one ≡ first
        → nat_eq head.number other ≡ second
        → cond second (g (cond first (f content) content)) (cond first (f content) content)
        ≡ cond first (f (cond second (g content) content)) (cond second (g content) content)
    by true true is its =
        absurd (apart (sym (eqb-true head.number one is) ∙ eqb-true head.number other its))
    by true false is its = refl
    by false true is its = refl
    by false false is its = refl

module _ (durable : Durable) (are : IsDurable durable) (port other : ℕ) (apart : port ≢ other) where
  by_profiles : (change another : Change) (on there : Option ℕ) → profile_on durable port ≡ on
      → profile_on durable other ≡ there
      → with_change_of there another (with_change_of on change durable)
      ≡ with_change_of on change (with_change_of there another durable)
  by_profiles change another None there is its = refl
  by_profiles change another (Some profile) None is its = refl
  by_profiles change another (Some profile) (Some neighbour) is its =
      ap (λ (contents : List Content). record { heads = durable.heads; contents = contents })
      (contents_commute profile neighbour (λ content. changed content change)
      (λ content. changed content another) unlike durable.heads.profiles durable.contents)
    where
      unlike : profile ≢ neighbour
      unlike same =
          apart (one_port durable are profile port other is
          (its ∙ ap (λ (n : ℕ). Some n) (sym same)))

  on_after : (on : Option ℕ) (change : Change) (place : ℕ)
      → profile_on (with_change_of on change durable) place ≡ profile_on durable place
  on_after on change place =
      ap (λ (its : Heads). slice_index_or its.ports.on place None) (heads_by durable change on)

  both_changed : (change another : Change)
      → changed_where (changed_where durable port (Some change)) other (Some another)
      ≡ changed_where (changed_where durable other (Some another)) port (Some change)
  both_changed change another =
      ap (λ (its : Option ℕ). with_change_of its another
      (with_change_of (profile_on durable port) change durable))
      (on_after (profile_on durable port) change other)
      ∙ by_profiles change another (profile_on durable port) (profile_on durable other) refl refl
      ∙ ap (λ (its : Option ℕ). with_change_of its change
      (with_change_of (profile_on durable other) another durable))
      (sym (on_after (profile_on durable other) another port))

  durables_commute : (change another : Option Change)
      → changed_where (changed_where durable port change) other another
      ≡ changed_where (changed_where durable other another) port change
  durables_commute None another = refl
  durables_commute (Some change) None = refl
  durables_commute (Some change) (Some another) = both_changed change another

module _ (state : WorldState) (are : IsDurable state.durable) (port other : ℕ)
    (apart : port ≢ other) (its another : LocalMade) where
  abbrev first : WorldState
  first = (local_made state port its).state

  abbrev second : WorldState
  second = (local_made state other another).state

  states_commute : (local_made first other another).state ≡ (local_made second port its).state
  states_commute =
      let counts : (state.commits + count_if (is_some its.change))
      + count_if (is_some another.change)
      ≡ (state.commits + count_if (is_some another.change)) + count_if (is_some its.change) =
      omega arith in
      ap (λ (durable : Durable). state_with durable
      (slice_set (slice_set state.ports port its.put) other another.put) state.shared
      ((state.commits + count_if (is_some its.change)) + count_if (is_some another.change)))
      (durables_commute state.durable are port other apart its.change another.change)
      ∙ ap (λ (ports : List PortState). state_with
      (changed_where (changed_where state.durable other another.change) port its.change) ports
      state.shared
      ((state.commits + count_if (is_some its.change)) + count_if (is_some another.change)))
      (set_comm state.ports port other its.put another.put apart)
      ∙ ap (λ (n : ℕ). state_with
      (changed_where (changed_where state.durable other another.change) port its.change)
      (slice_set (slice_set state.ports other another.put) port its.put) state.shared n) counts

-- what a port shows after a statement at another
pub view_elsewhere : (state : WorldState) (port other : ℕ) (made : Made) → other ≢ port
    → IsMadeAt port state made → view_at made.state other ≡ view_at state other
view_elsewhere state port other made apart at =
    ap (λ (its : PortState). record {
      port = its;
      content = content_on made.state.durable other;
      mode = made.state.durable.heads.ports.mode;
      count = made.state.durable.heads.ports.count;
      turn = made.state.shared;
    }) (at.others other apart)
    ∙ ap (λ (its : Content). record {
      port = port_in state other;
      content = its;
      mode = made.state.durable.heads.ports.mode;
      count = made.state.durable.heads.ports.count;
      turn = made.state.shared;
    }) (at.contents other apart)
    ∙ ap (λ (its : Heads). record {
      port = port_in state other;
      content = content_on state.durable other;
      mode = its.ports.mode;
      count = its.ports.count;
      turn = made.state.shared;
    }) at.heads
    ∙ ap (λ (n : ℕ). record {
      port = port_in state other;
      content = content_on state.durable other;
      mode = state.durable.heads.ports.mode;
      count = state.durable.heads.ports.count;
      turn = n;
    }) at.shared

-- two neighbours that changed places, and what the one that is now the first leaves
pub record Changed (state : WorldState) (port other : ℕ) (event another : Event)
    (failed fails : Bool) (one two : Made) : Type 0 where
  pub change : ChangePlaces state event another failed fails one two
  pub at : IsMadeAt other state change.first
  pub durable : IsDurable change.first.state.durable

module _ (state : WorldState) (sound : IsSoundState state) (port other : ℕ) (apart : port ≢ other)
    (event another : Event) (failed fails : Bool) (one two : Made)
    (here : IsLocal port state event failed one) where
  view_same : view_at one.state other ≡ view_at state other
  view_same =
      view_elsewhere state port other one (λ same. apart (sym same))
      (local_stays port state sound event failed one here)

  sound_there : IsSound (card_in one.state other)
  sound_there =
      subst (λ (view : PortView). IsSound (record {
        content = view.content;
        session = view.port.session;
        mode = view.mode;
        port = Some other;
      })) (sym view_same) (sound_card state sound other)

  module _ (there : IsLocal other one.state another fails two) where
    abbrev earlier : Made
    earlier = local_made state other there.its

    abbrev later : Made
    later = local_made earlier.state port here.its

    earlier_happens : Happens fails state another earlier
    earlier_happens = there.again state (sym view_same)

    earlier_fits : IfSome there.its.change (Fits (content_on state.durable other))
    earlier_fits =
        subst (λ (view : PortView). IfSome there.its.change (Fits view.content)) view_same
        there.fits

    earlier_at : IsMadeAt other state earlier
    earlier_at =
        local_stays other state sound another fails earlier (record {
          its = there.its;
          is = refl;
          again = λ one_more same. there.again one_more (same ∙ sym view_same);
          fits = earlier_fits;
          own = subst (λ (view : PortView). IsOwnLine (view.port.statements + 1) there.its.line)
              view_same there.own;
        })

    later_happens : Happens failed earlier.state event later
    later_happens =
        here.again earlier.state (view_elsewhere state other port earlier apart earlier_at)

    -- two neighbours that stay at different ports may change places
    pub places_changed : Changed state port other event another failed fails one two
    places_changed = record {
      change = record {
        first = earlier;
        second = later;
        first_happens = earlier_happens;
        second_happens = later_happens;
        state = sym (states_commute state sound.are port other apart here.its there.its)
            ∙ ap (λ (made : Made). (local_made made.state other there.its).state) (sym here.is)
            ∙ ap (λ (made : Made). made.state) (sym there.is);
        first_lines = ap (λ (view : PortView). record {
          turn = view.turn;
          port = other;
          line = there.its.line;
        } ∷ []) (sym view_same) ∙ ap (λ (made : Made). made.entries) (sym there.is);
        second_lines = ap (λ (made : Made). made.entries) (sym here.is);
      };
      at = earlier_at;
      durable = changed_are state.durable sound.are other there.its.change earlier_fits;
    }

  pub places_change_staying : StaysAt other (view_at one.state other) another
      → Happens fails one.state another two
      → ChangePlaces state event another failed fails one two
  places_change_staying then_stays then_happens =
      (places_changed
      (stays_local other one.state sound_there fails another two then_stays then_happens)).change

  pub places_change_counted : is_for other another ≡ true → Happens fails one.state another two
      → two.state.shared ≡ one.state.shared
      → Changed state port other event another failed fails one two
  places_change_counted comes happens same =
      places_changed
      (counted_local other one.state sound_there fails another two comes happens same)
