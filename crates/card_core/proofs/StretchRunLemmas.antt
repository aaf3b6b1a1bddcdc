-- A stretch of statements that stay at their ports, port by port.
use Rattle.std.proofs.Common.{◌≡◌, ◌≢◌, ◌<◌, ℕ, Bool, true, false, cond, nat_eq, List, [], ◌∷◌}
use Rattle.std.proofs.Common.{◌++◌}
use Rattle.std.proofs.Common.{filter, length, length-set, None, refl, sym, ◌∙◌, ap, subst, arith}
use Rattle.std.proofs.Common.{eqb-true}
use Rattle.std.proofs.lemmas.Bool.{eq-eqb, eqb-false}
use Rattle.std.proofs.lemmas.List.Elements.{filter-append}
use Rattle.std.specs.List.{AllByRecursion}
use Rattle.std.specs.Prelude.{slice_index_or}
use Rattle.record_codec.proofs.HeldLemmas.{differ_is}
use Rattle.record_codec.specs.IsDurable.{IsDurable}
use Rattle.record_codec.specs.declared.durable.Heads.{Heads}
use Rattle.card_core.proofs.LocalLemmas.{IsLocal, local_made, stays_local}
use Rattle.card_core.proofs.NeighbourLemmas.{view_elsewhere}
use Rattle.card_core.proofs.SoundLemmas.{happens_sound, sound_card}
use Rattle.card_core.proofs.SoundLoadLemmas.{changed_are}
use Rattle.card_core.proofs.StretchLemmas.{entries_again, local_stays, view_again}
use Rattle.card_core.specs.Run.{IsOnCard}
use Rattle.card_core.specs.Sound.{IsSoundState}
use Rattle.card_core.specs.Stepped.{AreSteps, Stepped}
use Rattle.card_core.specs.Stretch.{IsMadeAt, IsOfStretch, LeavesCard, PortView, RunsByItself}
use Rattle.card_core.specs.Stretch.{StaysAt}
use Rattle.card_core.specs.Stretch.{entries_of, is_for, lines_at, steps_at, view_at, which_failed}
use Rattle.card_core.specs.World.{Made, WorldState}
use Rattle.card_core.specs.declared.entry.Entry.{Entry}
use Rattle.card_core.specs.declared.event.Event.{Event}
use Rattle.card_core.specs.declared.event.Event.TheVariants as events

-- a statement that stays at a port comes to that port
comes_to : (port number : ℕ) (view : PortView) (event : Event) → StaysAt number view event
    → is_for port event ≡ nat_eq number port
comes_to port number view (events.Apdu came bytes) stays =
    ap (λ (n : ℕ). nat_eq n port) stays.0
comes_to port number view (events.Reset came) stays = ap (λ (n : ℕ). nat_eq n port) stays
comes_to port number view (events.Load came step) stays =
    ap (λ (n : ℕ). nat_eq n port) stays.0
comes_to port number view events.Power stays = absurd stays

-- lines that are all of a port, and of another
all_there : (port : ℕ) (entries : List Entry)
    → AllByRecursion (λ entry. entry.port ≡ port) entries → lines_at port entries ≡ entries
all_there port [] each = refl
all_there port (entry ∷ entries) each =
    ap (λ (here : Bool). cond here (entry ∷ lines_at port entries) (lines_at port entries))
    (eq-eqb entry.port port each.0)
    ∙ ap (λ (rest : List Entry). entry ∷ rest) (all_there port entries each.1)

none_there : (port number : ℕ) (entries : List Entry) → number ≢ port
    → AllByRecursion (λ entry. entry.port ≡ number) entries → lines_at port entries ≡ []
none_there port number [] apart each = refl
none_there port number (entry ∷ entries) apart each =
    ap (λ (here : Bool). cond here (entry ∷ lines_at port entries) (lines_at port entries))
    (differ_is entry.port port (λ same. apart (sym each.0 ∙ same)))
    ∙ none_there port number entries apart each.1

module _ (port : ℕ) where
  abbrev Goes : WorldState → WorldState → List Event → List Stepped → WorldState → Type 0
  Goes start other came taken after =
      RunsByItself port other came taken after × LeavesCard start after

  stops : (start other : WorldState) (taken : List Stepped) (after : WorldState)
      → view_at other port ≡ view_at start port → taken ≡ [] → after ≡ start
      → Goes start other [] taken after
  stops start other taken after same none is =
      subst (λ (its : List Stepped). Goes start other [] its after) (sym none)
      (subst (Goes start other [] []) (sym is) (
        record {
          alone = [];
          last = other;
          are = (refl, refl);
          failed = refl;
          lines = refl;
          view = same;
        },
        record { heads = refl; held = λ profile nowhere. refl; shared = refl },
      ))

  -- one more statement before the others
  module _ (event : Event) (came : List Event) (start other : WorldState) (taken : List Stepped)
      (after : WorldState) (sound : IsSoundState start)
      (on : AllByRecursion (IsOnCard start.durable.heads.ports.count) (event ∷ came))
      (are : AreSteps start (event ∷ came) taken after)
      (stretch : AllByRecursion IsOfStretch taken) (below : port < length start.ports)
      (within : port < length other.ports) (same : view_at other port ≡ view_at start port) where
    abbrev done : Made
    done = are.1

    abbrev first_step : Stepped
    first_step = record { before = start; event = event; failed = are.0; made = done }

    stretch_now : AllByRecursion IsOfStretch (first_step ∷ are.2)
    stretch_now = subst (AllByRecursion IsOfStretch) are.5 stretch

    abbrev number : ℕ
    number = stretch_now.0.0

    here : IsLocal number start event are.0 done
    here =
        stays_local number start (sound_card start sound number) are.0 event done stretch_now.0.1
        are.3

    at : IsMadeAt number start done
    at = local_stays number start sound event are.0 done here

    durable_now : IsDurable done.state.durable
    durable_now =
        subst (λ (its : Made). IsDurable its.state.durable) (sym here.is)
        (changed_are start.durable sound.are number here.its.change here.fits)

    sound_now : IsSoundState done.state
    sound_now = happens_sound start sound are.0 event done on.0 are.3 durable_now

    on_now : AllByRecursion (IsOnCard done.state.durable.heads.ports.count) came
    on_now =
        subst (λ (heads : Heads). AllByRecursion (IsOnCard heads.ports.count) came)
        (sym at.heads) on.1

    places : length done.state.ports ≡ length start.ports
    places =
        sound_now.count ∙ ap (λ (heads : Heads). heads.ports.count) at.heads ∙ sym sound.count

    below_now : port < length done.state.ports
    below_now = omega (arith, below, places)

    leaves : LeavesCard done.state after → LeavesCard start after
    leaves rest = record {
      heads = rest.heads ∙ at.heads;
      held = λ profile nowhere.
          rest.held profile (λ place on_it. nowhere place
          (ap (λ (heads : Heads). slice_index_or heads.ports.on place None) (sym at.heads)
          ∙ on_it))
          ∙ at.held profile (nowhere number);
      shared = rest.shared ∙ at.shared;
    }

    lines_are : (rest : List Entry)
        → lines_at port (done.entries ++ rest)
        ≡ lines_at port done.entries ++ lines_at port rest
    lines_are rest = filter-append (λ (entry : Entry). nat_eq entry.port port) done.entries rest

    -- a statement of the port itself
    module _ (is : nat_eq number port ≡ true) where
      is_here : number ≡ port
      is_here = eqb-true number port is

      own : IsLocal port start event are.0 done
      own = subst (λ (n : ℕ). IsLocal n start event are.0 done) is_here here

      abbrev its_made : Made
      its_made = local_made other port own.its

      within_now : port < length its_made.state.ports
      within_now = omega (arith, within, length-set other.ports port own.its.put)

      then_same : view_at its_made.state port ≡ view_at done.state port
      then_same = view_again port start sound event are.0 done own other below within same

      own_lines : its_made.entries ≡ lines_at port done.entries
      own_lines =
          entries_again port start sound event are.0 done own other below within same
          ∙ sym (all_there port done.entries
          (subst (λ (n : ℕ). AllByRecursion (λ entry. entry.port ≡ n) done.entries) is_here
          at.entries))

      goes_here : Goes done.state its_made.state came are.2 after
          → Goes start other (event ∷ came) taken after
      goes_here rest =
          subst (λ (its : List Stepped). Goes start other (event ∷ came) its after) (sym are.5) (
            record {
              alone = record {
                before = other;
                event = event;
                failed = are.0;
                made = its_made;
              } ∷ rest.0.alone;
              last = rest.0.last;
              are = subst (λ (its : Bool). AreSteps other
                  (cond its (event ∷ filter (is_for port) came) (filter (is_for port) came))
                  (record {
                    before = other;
                    event = event;
                    failed = are.0;
                    made = its_made;
                  } ∷ rest.0.alone) rest.0.last)
                  (sym (comes_to port number (view_at start number) event stretch_now.0.1 ∙ is))
                  (are.0, its_made, rest.0.alone, own.again other same, rest.0.are, refl);
              failed = ap (λ (its : List Bool). are.0 ∷ its) rest.0.failed
                  ∙ ap (λ (its : Bool). which_failed
                  (cond its (first_step ∷ steps_at port are.2) (steps_at port are.2)))
                  (sym (comes_to port number (view_at start number) event stretch_now.0.1 ∙ is));
              lines = ap (λ (its : List Entry). its ++ entries_of rest.0.alone) own_lines
                  ∙ ap (λ (its : List Entry). lines_at port done.entries ++ its) rest.0.lines
                  ∙ sym (lines_are (entries_of are.2));
              view = rest.0.view;
            },
            leaves rest.1,
          )

    -- one of another port
    module _ (is : nat_eq number port ≡ false) where
      elsewhere : number ≢ port
      elsewhere = eqb-false number port is

      same_now : view_at other port ≡ view_at done.state port
      same_now =
          same ∙ sym (view_elsewhere start number port done (λ equal. elsewhere (sym equal)) at)

      goes_elsewhere : Goes done.state other came are.2 after
          → Goes start other (event ∷ came) taken after
      goes_elsewhere rest =
          subst (λ (its : List Stepped). Goes start other (event ∷ came) its after) (sym are.5) (
            record {
              alone = rest.0.alone;
              last = rest.0.last;
              are = subst (λ (its : Bool). AreSteps other
                  (cond its (event ∷ filter (is_for port) came) (filter (is_for port) came))
                  rest.0.alone rest.0.last)
                  (sym (comes_to port number (view_at start number) event stretch_now.0.1 ∙ is))
                  rest.0.are;
              failed = rest.0.failed ∙ ap (λ (its : Bool). which_failed
                  (cond its (first_step ∷ steps_at port are.2) (steps_at port are.2)))
                  (sym (comes_to port number (view_at start number) event stretch_now.0.1 ∙ is));
              lines = rest.0.lines
                  ∙ sym (ap (λ (its : List Entry). its ++ lines_at port (entries_of are.2))
                  (none_there port number done.entries elsewhere at.entries))
                  ∙ sym (lines_are (entries_of are.2));
              view = rest.0.view;
            },
            leaves rest.1,
          )

    more : ((one : WorldState) → IsSoundState done.state
        → AllByRecursion (IsOnCard done.state.durable.heads.ports.count) came
        → AllByRecursion IsOfStretch are.2 → port < length done.state.ports
        → port < length one.ports → view_at one port ≡ view_at done.state port
        → Goes done.state one came are.2 after)
        → Goes start other (event ∷ came) taken after
    more rest = by (nat_eq number port) refl
      where
        by : (at_port : Bool) → nat_eq number port ≡ at_port
            → Goes start other (event ∷ came) taken after
        by true is =
            goes_here is
            (rest (its_made is).state sound_now on_now stretch_now.1 below_now (within_now is)
            (then_same is))
        by false is =
            goes_elsewhere is
            (rest other sound_now on_now stretch_now.1 below_now within (same_now is))

  pub stretch_goes : (came : List Event) (start other : WorldState) (taken : List Stepped)
      (after : WorldState) → IsSoundState start
      → AllByRecursion (IsOnCard start.durable.heads.ports.count) came
      → AreSteps start came taken after → AllByRecursion IsOfStretch taken
      → port < length start.ports → port < length other.ports
      → view_at other port ≡ view_at start port → Goes start other came taken after
  stretch_goes [] start other taken after sound on are stretch below within same =
      stops start other taken after same are.0 are.1
  stretch_goes (event ∷ came) start other taken after sound on are stretch below within same =
      more event came start other taken after sound on are stretch below within same
      (λ one sound on stretch below within same.
      stretch_goes came are.1.state one are.2 after sound on are.4 stretch below within same)
