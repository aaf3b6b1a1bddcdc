-- The sessions of a card suit its contents with all that comes to it.
use Rattle.std.proofs.Common.{◌≡◌, ◌≢◌, ◌⊎◌, ◌<◌, ◌+◌, ℕ, Bool, true, false, cond, nat_eq, List}
use Rattle.std.proofs.Common.{Option, Some, None, Result, Ok, Err, refl, sym, ◌∙◌, ap, subst}
use Rattle.std.proofs.Common.{unwrap_or, inl, inr, arith, eqb-true, length-set}
use Rattle.std.proofs.lemmas.Bool.{eqb-false}
use Rattle.std.specs.Prelude.{slice_index_or, slice_set}
use Rattle.apdu_codec.specs.Command.{Apdu}
use Rattle.apdu_codec.specs.declared.status.Sw.{Sw}
use Rattle.file_rows.specs.Content.{IsValid}
use Rattle.file_rows.specs.declared.content.Content.{Content}
use Rattle.isdr_commands.specs.declared.moves.Move.{Move}
use Rattle.lsi_refresh.specs.Lsi.{lsi_of}
use Rattle.lsi_refresh.specs.declared.lsi.Lsi.{Lsi}
use Rattle.lsi_refresh.specs.declared.lsi.Lsi.TheVariants as lsi
use Rattle.profile_card.proofs.FollowLemmas.{MayFollow-decision}
use Rattle.profile_card.specs.Card.{IsSound}
use Rattle.profile_card.specs.Commands.{decision}
use Rattle.profile_card.specs.Own.{is_common}
use Rattle.record_codec.specs.Heads.{held_content}
use Rattle.record_codec.specs.IsDurable.{IsDurable}
use Rattle.record_codec.specs.declared.durable.Durable.{Durable}
use Rattle.record_codec.specs.declared.durable.Heads.{Heads}
use Rattle.port_table.specs.declared.ports.Ports.{Ports}
use Rattle.uicc_channels.specs.CommandOutcome.{CommandOutcome}
use Rattle.uicc_channels.specs.Session.{Suits, fresh_session}
use Rattle.uicc_channels.specs.declared.session.Session.{Session}
use Rattle.card_core.proofs.CameLemmas.{state_with}
use Rattle.card_core.proofs.CardLemmas.{blank_valid, suits_fresh}
use Rattle.card_core.proofs.CardStepLemmas.{content_here}
use Rattle.card_core.proofs.CarriedLemmas.{IsCarried, desk_carried}
use Rattle.card_core.proofs.InstalledLemmas.{LeavesPorts, end_leaves}
use Rattle.card_core.proofs.MovedLemmas.{content_at_unmoved, count_stays}
use Rattle.card_core.proofs.PortLemmas.{valid_held}
use Rattle.card_core.proofs.SeenLemmas.{each_either, fresh_at, put_either, seen_alike}
use Rattle.card_core.proofs.StayLemmas.{content_elsewhere, heads_where, other_port}
use Rattle.card_core.proofs.WithinLemmas.{length_each, length_fresh}
use Rattle.card_core.specs.Desk.{desk_outcome}
use Rattle.card_core.specs.DeskOutcome.{DeskOutcome}
use Rattle.card_core.specs.Failed.{FailsLoadWith}
use Rattle.card_core.specs.IsdrCommand.{busy_of, came_at, isdr_made, kept_on, move_at, port_moved}
use Rattle.card_core.specs.ManageLsi.{counted_at, lsi_asked_for, lsi_made}
use Rattle.card_core.specs.OwnCommand.{changed_where, own_made, port_after}
use Rattle.card_core.specs.Port.{blank_content, content_held, content_on, profile_on}
use Rattle.card_core.specs.PortState.{PortState, fresh_port, reset_port}
use Rattle.card_core.specs.Recorded.{recorded}
use Rattle.card_core.specs.Run.{IsOnCard}
use Rattle.card_core.specs.Sound.{IsSoundState}
use Rattle.card_core.specs.Statements.{AnswersBytes, MakesLoadStep, command_made}
use Rattle.card_core.specs.Stepped.{Happens}
use Rattle.card_core.specs.World.{Made, WorldState, card_in, opened, port_in}
use Rattle.card_core.specs.declared.event.Event.{Event}
use Rattle.card_core.specs.declared.event.Event.TheVariants as events
use Rattle.card_core.specs.declared.event.LoadStep.{LoadStep}
use Rattle.card_core.specs.declared.event.LoadStep.TheVariants as steps

module _ (durable : Durable) (are : IsDurable durable) where
  -- the content at a port is one that a card may hold
  pub valid_on : (port : ℕ) → IsValid (content_on durable port)
  valid_on port = by (profile_on durable port)
    where
      held : (profile : ℕ) (content : Option Content) → held_content profile durable ≡ content
          → IsValid (unwrap_or content blank_content)
      held profile None is = blank_valid
      held profile (Some content) is = valid_held durable profile content are is

      by : (on : Option ℕ) → IsValid (content_held durable on)
      by None = blank_valid
      by (Some profile) = held profile (held_content profile durable) refl

  pub fresh_suits : (port : ℕ) (session : Session) (refresh : Bool) (kept : Option ℕ)
      → session ≡ fresh_session refresh kept → Suits session (content_on durable port).rows
  fresh_suits port session refresh kept is =
      suits_fresh session (content_on durable port) refresh kept is (valid_on port)

-- a card that was just opened
pub opened_sound : (durable : Durable) → IsDurable durable → IsSoundState (opened durable)
opened_sound durable are = record {
  are = are;
  count = length_fresh durable.heads.ports.count fresh_port;
  sessions = λ port. fresh_suits durable are port (port_in (opened durable) port).session false
      None (ap (λ (its : PortState). its.session) (fresh_at durable.heads.ports.count port));
}

module _ (state : WorldState) (sound : IsSoundState state) where
  -- the card at a port
  pub sound_card : (port : ℕ) → IsSound (card_in state port)
  sound_card port = record {
    content = valid_on state.durable sound.are port;
    session = sound.sessions port;
  }

  -- a card of which one port is put
  module _ (durable : Durable) (port : ℕ) (put : PortState) (shared commits : ℕ)
      (are : IsDurable durable)
      (same : durable.heads.ports.count ≡ state.durable.heads.ports.count)
      (elsewhere : (other : ℕ) → other ≢ port
      → content_on durable other ≡ content_on state.durable other)
      (suits : Suits put.session (content_on durable port).rows) where
    abbrev after : List PortState
    after = slice_set state.ports port put

    abbrev Fits : ℕ → PortState → Type 0
    Fits number its = Suits its.session (content_on durable number).rows

    fits_here : Fits port (slice_index_or after port fresh_port)
    fits_here = elim (put_either state.ports port put) [
      | inl is ↦ subst (Fits port) (sym is) suits
      | inr none ↦ subst (Fits port) (sym none)
          (fresh_suits durable are port fresh_port.session false None refl)
    ]

    fits_at : (other : ℕ) (here : Bool) → nat_eq other port ≡ here
        → Fits other (slice_index_or after other fresh_port)
    fits_at other true is =
        subst (λ (n : ℕ). Fits n (slice_index_or after n fresh_port))
        (sym (eqb-true other port is)) fits_here
    fits_at other false is =
        let apart : other ≢ port = eqb-false other port is in
        subst (Fits other) (sym (other_port state.ports port other put apart))
        (subst (λ (its : Content). Suits (port_in state other).session its.rows)
        (sym (elsewhere other apart)) (sound.sessions other))

    pub put_sound : IsSoundState (state_with durable after shared commits)
    put_sound = record {
      are = are;
      count = length-set state.ports port put ∙ sound.count ∙ sym same;
      sessions = λ other. fits_at other (nat_eq other port) refl;
    }

  -- what the card keeps is as before
  pub put_kept : (port : ℕ) (put : PortState) (shared commits : ℕ)
      → Suits put.session (content_on state.durable port).rows
      → IsSoundState (state_with state.durable (slice_set state.ports port put) shared commits)
  put_kept port put shared commits suits =
      put_sound state.durable port put shared commits sound.are refl (λ other apart. refl) suits

  -- and so is the session of the port
  pub put_quiet : (port : ℕ) (put : PortState) (shared commits : ℕ)
      → put.session ≡ (port_in state port).session
      → IsSoundState (state_with state.durable (slice_set state.ports port put) shared commits)
  put_quiet port put shared commits same =
      put_kept port put shared commits
      (subst (λ (its : Session). Suits its (content_on state.durable port).rows) (sym same)
      (sound.sessions port))

  pub own_sound : (port : ℕ) (c : Apdu) → IsDurable (own_made state port c).state.durable
      → IsSoundState (own_made state port c).state
  own_sound port c are =
      let outcome : CommandOutcome = decision (card_in state port) c in
      let may = MayFollow-decision (card_in state port) (sound_card port) c in
      put_sound (changed_where state.durable port outcome.change) port
      (port_after (port_in state port) c outcome) state.shared _ are
      (ap (λ (its : Heads). its.ports.count) (heads_where state.durable port outcome.change))
      (λ other apart. content_elsewhere state.durable sound.are port outcome.change other apart)
      (subst (λ (its : Content). Suits outcome.session its.rows)
      (sym (content_here state.durable port outcome.change may.change)) may.session)

  pub lsi_sound : (port : ℕ) (asked : Result Lsi Sw)
      → IsSoundState (lsi_asked_for state port asked).state
  lsi_sound port (Ok lsi.Count) = put_quiet port _ state.shared state.commits refl
  lsi_sound port (Err sw) = put_quiet port _ state.shared state.commits refl
  lsi_sound port (Ok (lsi.Reset other)) =
      reset_sound (counted_at state port) (put_quiet port _ state.shared state.commits refl) other
    where
      reset_sound : (now : WorldState) → IsSoundState now → (number : ℕ)
          → IsSoundState (state_with now.durable
          (slice_set now.ports number (reset_port None (port_in now number))) (now.shared + 1)
          now.commits)
      reset_sound now its number = record {
        are = its.are;
        count = length-set now.ports number _ ∙ its.count;
        sessions = λ one. by number one (nat_eq one number) refl;
      }
        where
          by : (here one : ℕ) (is_here : Bool) → nat_eq one here ≡ is_here
              → Suits (slice_index_or (slice_set now.ports here
              (reset_port None (port_in now here))) one fresh_port).session
              (content_on now.durable one).rows
          by here one true is =
              subst (λ (n : ℕ). Suits (slice_index_or (slice_set now.ports here
              (reset_port None (port_in now here))) n fresh_port).session
              (content_on now.durable n).rows) (sym (eqb-true one here is))
              (elim (put_either now.ports here (reset_port None (port_in now here))) [
                | inl same ↦ fresh_suits now.durable its.are here _ false None
                    (ap (λ (p : PortState). p.session) same)
                | inr none ↦ fresh_suits now.durable its.are here _ false None
                    (ap (λ (p : PortState). p.session) none)
              ])
          by here one false is =
              subst (λ (p : PortState). Suits p.session (content_on now.durable one).rows)
              (sym (other_port now.ports here one _ (eqb-false one here is))) (its.sessions one)

  pub isdr_sound : (port : ℕ) (c : Apdu) → port < state.durable.heads.ports.count
      → IsDurable (isdr_made state port c).state.durable
      → IsSoundState (isdr_made state port c).state
  isdr_sound port c below are = record {
    are = are;
    count = length_each _ 0 ports ∙ length-set state.ports port put ∙ sound.count
        ∙ sym (count_stays state.durable outcome.entry carried.kind);
    sessions = λ other. by other (each_either change 0 ports other);
  }
    where
      outcome : DeskOutcome
      outcome = desk_outcome (port_in state port).desk state.durable.heads
          (busy_of state.ports) port c

      carried : IsCarried state.durable outcome.entry outcome.moves
      carried = desk_carried state.durable sound.are (busy_of state.ports) port below
          (port_in state port).desk c

      after : Durable
      after = recorded state.durable outcome.entry

      put : PortState
      put = came_at port c.channel outcome (port_in state port)

      ports : List PortState
      ports = slice_set state.ports port put

      change : ℕ → PortState → PortState
      change number = port_moved (kept_on port c.channel number) (move_at outcome.moves number)

      moved : (other : ℕ) (move : Option Move) → move_at outcome.moves other ≡ move
          → Suits (port_moved (kept_on port c.channel other) move
          (slice_index_or ports other fresh_port)).session (content_on after other).rows
      moved other None none =
          subst (λ (its : Session). Suits its (content_on after other).rows)
          (sym (seen_alike (λ its. its.session) state.ports port other put refl))
          (subst (λ (its : Content). Suits (port_in state other).session its.rows)
          (sym (content_at_unmoved state.durable sound.are outcome.entry outcome.moves carried are
          other none)) (sound.sessions other))
      moved other (Some move) is = fresh_suits after are other _ move.refresh _ refl

      at_place : (other place : ℕ) → place ≡ other
          → Suits (change place (slice_index_or ports other fresh_port)).session
          (content_on after other).rows
      at_place other place is =
          subst (λ (n : ℕ). Suits (change n (slice_index_or ports other fresh_port)).session
          (content_on after other).rows) (sym is) (moved other (move_at outcome.moves other) refl)

      by : (other : ℕ) → (slice_index_or (isdr_made state port c).state.ports other fresh_port
          ≡ change (0 + other) (slice_index_or ports other fresh_port))
          ⊎ (slice_index_or (isdr_made state port c).state.ports other fresh_port ≡ fresh_port)
          → Suits (port_in (isdr_made state port c).state other).session
          (content_on after other).rows
      by other (inl is) =
          subst (λ (its : PortState). Suits its.session (content_on after other).rows) (sym is)
          (at_place other (0 + other) (omega arith))
      by other (inr none) =
          fresh_suits after are other _ false None (ap (λ (p : PortState). p.session) none)

  -- a load's end changes no content at a port
  pub end_sound : (port : ℕ) (durable : Durable) (put : PortState) (shared commits : ℕ)
      → put.session ≡ (port_in state port).session → IsDurable durable
      → LeavesPorts state.durable sound.are durable
      → IsSoundState (state_with durable (slice_set state.ports port put) shared commits)
  end_sound port durable put shared commits same are leaves =
      put_sound durable port put shared commits are
      (ap (λ (its : Ports). its.count) leaves.0) (λ other apart. leaves.1 other)
      (subst (λ (its : Content). Suits put.session its.rows) (sym (leaves.1 port))
      (subst (λ (its : Session). Suits its (content_on state.durable port).rows) (sym same)
      (sound.sessions port)))

  abbrev pub StaysSound : Made → Type 0
  StaysSound made = IsDurable made.state.durable → IsSoundState made.state

  command_sound : (port : ℕ) (c : Apdu) → port < state.durable.heads.ports.count
      → StaysSound (command_made state port c)
  command_sound port c below = by (is_common (port_in state port).session c) (nat_eq c.ins 0x7A)
    where
      by : (common is_lsi : Bool) → StaysSound (cond common
          (cond is_lsi (lsi_made state port c) (isdr_made state port c)) (own_made state port c))
      by true true are = lsi_sound port (lsi_of c state.durable.heads.ports.count)
      by true false are = isdr_sound port c below are
      by false is_lsi are = own_sound port c are

  bytes_sound : (port : ℕ) (bytes : List ℕ) (made : Made)
      → port < state.durable.heads.ports.count → AnswersBytes state port bytes made
      → StaysSound made
  bytes_sound port bytes made below (inl spelled) =
      subst StaysSound (sym spelled.2) (command_sound port spelled.0 below)
  bytes_sound port bytes made below (inr none) =
      subst StaysSound (sym none.1) (λ are. put_quiet port _ state.shared state.commits refl)

  step_sound : (port : ℕ) (step : LoadStep) (made : Made) → MakesLoadStep state port step made
      → StaysSound made
  step_sound port (steps.Begin metadata) made is =
      subst StaysSound (sym is) (λ are. put_quiet port _ state.shared state.commits refl)
  step_sound port (steps.Piece piece) made is =
      subst StaysSound (sym is) (λ are. put_quiet port _ state.shared state.commits refl)
  step_sound port steps.End made ends =
      subst StaysSound (sym ends.2) (λ are. end_sound port ends.0.durable _ (state.shared + 1) _
      refl are
      (end_leaves state.durable sound.are (state.commits + 1) (port_in state port).load ends.0
      ends.1))

  failed_step_sound : (port : ℕ) (step : LoadStep) (made : Made)
      → FailsLoadWith state port step made → StaysSound made
  failed_step_sound port (steps.Begin metadata) made is =
      subst StaysSound (sym is) (λ are. put_quiet port _ state.shared state.commits refl)
  failed_step_sound port (steps.Piece piece) made is =
      subst StaysSound (sym is) (λ are. put_quiet port _ state.shared state.commits refl)
  failed_step_sound port steps.End made ends =
      subst StaysSound (sym ends.1) (λ are. put_quiet port _ (state.shared + 1) _ refl)

  -- all that comes to a card leaves its sessions suiting the contents
  pub happens_sound : (failed : Bool) (event : Event) (made : Made)
      → IsOnCard state.durable.heads.ports.count event → Happens failed state event made
      → StaysSound made
  happens_sound false (events.Apdu port bytes) made on is = bytes_sound port bytes made on is
  happens_sound false (events.Reset port) made on is =
      subst StaysSound (sym is) (λ are. put_kept port _ state.shared state.commits
      (fresh_suits state.durable sound.are port _ false None refl))
  happens_sound false (events.Load port step) made on is = step_sound port step made is
  happens_sound false events.Power made on is = subst StaysSound (sym is) (opened_sound state.durable)
  happens_sound true (events.Apdu port bytes) made on is =
      subst StaysSound (sym is.3) (λ are. put_quiet port _ _ state.commits refl)
  happens_sound true (events.Reset port) made on is = absurd is
  happens_sound true (events.Load port step) made on is = failed_step_sound port step made is
  happens_sound true events.Power made on is = absurd is
