-- A statement that isn't shared looks at its own port alone, and changes nothing else.
use Rattle.std.proofs.Common.{◌≡◌, ◌+◌, ℕ, Bool, true, false, cond, nat_eq, List, [], ◌∷◌}
use Rattle.std.proofs.Common.{Option, Some, None, Result, Ok, Err, refl, sym, ◌∙◌, ap, subst, arith}
use Rattle.std.proofs.Common.{inl, inr, eqb-true}
use Rattle.std.specs.Prelude.{◌&&◌, IfSome, is_some, option_map, slice_set}
use Rattle.apdu_codec.specs.Answer.{status_alone}
use Rattle.apdu_codec.specs.Command.{Apdu, Spells, refusal}
use Rattle.apdu_codec.specs.declared.answers.Answer.{Answer}
use Rattle.apdu_codec.specs.declared.status.Sw.{Sw}
use Rattle.apdu_codec.specs.declared.status.TheConstants.Sw.{OK, WRONG_INSTRUCTION}
use Rattle.file_rows.specs.Change.{Fits}
use Rattle.file_rows.specs.declared.change.Change.{Change}
use Rattle.isdr_codec.specs.Metadata.{metadata_of}
use Rattle.lsi_refresh.specs.Lsi.{count_body, lsi_of}
use Rattle.lsi_refresh.specs.declared.lsi.Lsi.{Lsi}
use Rattle.lsi_refresh.specs.declared.lsi.Lsi.TheVariants as lsi
use Rattle.profile_card.proofs.FollowLemmas.{MayFollow-decision}
use Rattle.profile_card.specs.Card.{Card, IsSound}
use Rattle.profile_card.specs.Commands.{decision}
use Rattle.profile_card.specs.Own.{is_common}
use Rattle.card_core.proofs.CameLemmas.{state_with}
use Rattle.card_core.proofs.OutcomeLemmas.{get_response-has}
use Rattle.card_core.specs.Desk.{desk_outcome, exchange_at, with_exchange}
use Rattle.card_core.specs.DeskOutcome.{DeskOutcome, desk_answer, desk_refusal}
use Rattle.card_core.specs.Failed.{failed_answer, failed_command, failed_port, spoiled}
use Rattle.card_core.specs.GetResponse.{get_response}
use Rattle.card_core.specs.IsdrCommand.{at_each, busy_of, came_at, is_shared_command, isdr_carried}
use Rattle.card_core.specs.IsdrCommand.{isdr_made, kept_on, move_at, port_moved}
use Rattle.card_core.specs.Load.{LoadOutcome, load_begun, piece_taken}
use Rattle.card_core.specs.ManageLsi.{lsi_asked_for, lsi_made}
use Rattle.card_core.specs.OwnCommand.{changed_where, own_made, port_after}
use Rattle.card_core.specs.Port.{content_on}
use Rattle.card_core.specs.PortReset.{reset_made}
use Rattle.card_core.specs.PortState.{PortState, counted, reset_port}
use Rattle.card_core.specs.Statements.{AnswersBytes, command_made}
use Rattle.card_core.specs.StoreData.{store_data}
use Rattle.card_core.specs.Stepped.{Happens}
use Rattle.card_core.specs.Stretch.{IsUnshared, PortView, StaysAt, is_shared_at}
use Rattle.card_core.specs.Stretch.{resets_a_port, view_at}
use Rattle.card_core.specs.World.{Made, WorldState, answered_alone, card_in, count_if, entry_at}
use Rattle.card_core.specs.World.{port_in}
use Rattle.card_core.specs.declared.desk.Desk.{Desk}
use Rattle.card_core.specs.declared.entry.Cause.{Cause}
use Rattle.card_core.specs.declared.entry.Entry.{Entry}
use Rattle.card_core.specs.declared.entry.Line.{Line}
use Rattle.card_core.specs.declared.entry.Line.TheVariants as lines
use Rattle.card_core.specs.declared.entry.Loading.TheVariants.{Memory}
use Rattle.card_core.specs.declared.event.Event.{Event}
use Rattle.card_core.specs.declared.event.Event.TheVariants as events
use Rattle.card_core.specs.declared.event.LoadStep.{LoadStep}
use Rattle.card_core.specs.declared.event.LoadStep.TheVariants as steps

-- what such a statement makes: what then stands at its port, the change of the content there, and
-- its line
pub record LocalMade : Type 0 where
  pub put : PortState
  pub change : Option Change
  pub line : Line

-- made of a whole card
abbrev pub local_made : WorldState → ℕ → LocalMade → Made
local_made state port its = record {
  state = state_with (changed_where state.durable port its.change)
      (slice_set state.ports port its.put) state.shared
      (state.commits + count_if (is_some its.change));
  entries = entry_at state port its.line ∷ [];
}

abbrev pub made_with : WorldState → List PortState → List Entry → ℕ → Made
made_with state ports entries commits = record {
  state = state_with state.durable ports state.shared commits;
  entries = entries;
}

-- what changes no content counts no record
pub same_commits : (state : WorldState) (ports : List PortState) (entries : List Entry)
    → made_with state ports entries (state.commits + count_if false)
    ≡ made_with state ports entries state.commits
same_commits state ports entries =
    let none : state.commits + count_if false ≡ state.commits = omega arith in
    ap (made_with state ports entries) none

abbrev pub number_in : PortView → ℕ
number_in view = view.port.statements + 1

abbrev pub answered_local : PortView → PortState → Answer → Option Cause → LocalMade
answered_local view put answer cause = record {
  put = put;
  change = None;
  line = lines.Answered (number_in view) answer cause;
}

abbrev pub card_seen : PortView → ℕ → Card
card_seen view port = record {
  content = view.content;
  session = view.port.session;
  mode = view.mode;
  port = Some port;
}

abbrev pub own_local : ℕ → Apdu → PortView → LocalMade
own_local port c view =
    let outcome = decision (card_seen view port) c in
    record {
      put = port_after view.port c outcome;
      change = outcome.change;
      line = lines.Answered (number_in view) outcome.answer None;
    }

abbrev pub lsi_local : PortView → Result Lsi Sw → LocalMade
lsi_local view (Ok lsi.Count) = answered_local view (counted view.port)
    (record { body = count_body view.count; sw = OK }) None
lsi_local view (Ok (lsi.Reset port)) = answered_local view (counted view.port)
    (status_alone OK) None
lsi_local view (Err sw) = answered_local view (counted view.port) (status_alone sw) None

-- what a command that isn't STORE DATA comes to on a channel with the ISD-R
abbrev pub quiet_outcome : Desk → Apdu → DeskOutcome
quiet_outcome desk c =
    cond (nat_eq c.ins 0xC0) (get_response (exchange_at desk c.channel) c)
    (desk_refusal (exchange_at desk c.channel) WRONG_INSTRUCTION)

abbrev pub isdr_local : Apdu → PortView → LocalMade
isdr_local c view =
    let outcome = quiet_outcome view.port.desk c in
    answered_local view (record (counted view.port) {
      desk = with_exchange view.port.desk c.channel outcome.exchange;
    }) outcome.answer None

abbrev pub load_local : PortView → LoadOutcome → LocalMade
load_local view step = record {
  put = record (counted view.port) { load = step.load };
  change = None;
  line = lines.Loaded (number_in view) step.outcome;
}

-- it records nothing and moves no port
abbrev IsQuiet : DeskOutcome → Type 0
IsQuiet outcome = outcome ≡ desk_answer outcome.answer outcome.exchange

quiet : (desk : Desk) (c : Apdu) → IsQuiet (quiet_outcome desk c)
quiet desk c = by (nat_eq c.ins 0xC0)
  where
    by : (given : Bool) → IsQuiet (cond given (get_response (exchange_at desk c.channel) c)
        (desk_refusal (exchange_at desk c.channel) WRONG_INSTRUCTION))
    by true =
        get_response-has IsQuiet (exchange_at desk c.channel) c (λ sw. refl) refl
    by false = refl

-- ports of which none moves
none_move : (came channel first : ℕ) (ports : List PortState)
    → at_each (λ number. port_moved (kept_on came channel number) (move_at [] number)) first ports
    ≡ ports
none_move came channel first [] = refl
none_move came channel first (port ∷ ports) =
    ap (λ (its : List PortState). port ∷ its) (none_move came channel (first + 1) ports)

-- the line of a statement of this number, at its own port
abbrev pub IsOwnLine : ℕ → Line → Type 0
IsOwnLine number (lines.Answered its answer cause) = its ≡ number
IsOwnLine number (lines.OwnReset its) = its ≡ number
IsOwnLine number (lines.Loaded its outcome) = its ≡ number
IsOwnLine number (lines.ForeignReset maker) = ⊥
IsOwnLine number (lines.Unbound profile refresh kept maker commit) = ⊥
IsOwnLine number (lines.Bound profile refresh kept maker commit) = ⊥

module _ (port : ℕ) where
  -- a statement made of a card what one makes of that port, and of any card that shows it the same
  pub record IsLocal (state : WorldState) (event : Event) (failed : Bool) (made : Made)
      : Type 0 where
    pub its : LocalMade
    pub is : made ≡ local_made state port its
    pub again : (other : WorldState) → view_at other port ≡ view_at state port
        → Happens failed other event (local_made other port its)
    pub fits : IfSome its.change (Fits (content_on state.durable port))
    pub own : IsOwnLine ((port_in state port).statements + 1) its.line

  build : (state : WorldState) (event : Event) (failed : Bool) (made : Made)
      (make : PortView → LocalMade) (May : PortView → Type 0)
      → ((one : WorldState) → May (view_at one port)
      → Happens failed one event (local_made one port (make (view_at one port))))
      → May (view_at state port) → made ≡ local_made state port (make (view_at state port))
      → IfSome (make (view_at state port)).change (Fits (content_on state.durable port))
      → IsOwnLine ((port_in state port).statements + 1) (make (view_at state port)).line
      → IsLocal state event failed made
  build state event failed made make May happens may is fits own = record {
    its = make (view_at state port);
    is = is;
    again = λ other same.
        subst (λ (view : PortView). Happens failed other event (local_made other port (make view)))
        same (happens other (subst May (sym same) may));
    fits = fits;
    own = own;
  }

  -- bytes that spell no command
  pub unspelled_local : (state : WorldState) (bytes : List ℕ) (made : Made)
      → ((c : Apdu) → ¬ Spells bytes c)
      → made ≡ answered_alone state port (status_alone (refusal bytes))
      → IsLocal state (events.Apdu port bytes) false made
  unspelled_local state bytes made none is =
      build state (events.Apdu port bytes) false made
      (λ view. answered_local view (counted view.port) (status_alone (refusal bytes)) None)
      (λ view. Unit {0})
      (λ one may. inr (none, same_commits one _ _)) tt (is ∙ sym (same_commits state _ _)) tt refl

  -- one that the card of the port answers
  own_is_local : (state : WorldState) (bytes : List ℕ) (c : Apdu) (made : Made)
      → IsSound (card_in state port) → Spells bytes c
      → is_common (port_in state port).session c ≡ false → made ≡ own_made state port c
      → IsLocal state (events.Apdu port bytes) false made
  own_is_local state bytes c made sound spelled own is =
      build state (events.Apdu port bytes) false made (own_local port c)
      (λ view. is_common view.port.session c ≡ false)
      (λ one may. inl (
        c,
        spelled,
        ap (λ (common : Bool). cond common
            (cond (nat_eq c.ins 0x7A) (lsi_made one port c) (isdr_made one port c))
            (own_made one port c)) (sym may),
      )) own is
      (MayFollow-decision (card_in state port) sound c).change refl

  -- MANAGE LSI that resets no port
  module _ (bytes : List ℕ) (c : Apdu) (spelled : Spells bytes c)
      (is_lsi : nat_eq c.ins 0x7A ≡ true) where
    pub lsi_is : (one : WorldState) (asked : Result Lsi Sw) → resets_a_port asked ≡ false
        → local_made one port (lsi_local (view_at one port) asked) ≡ lsi_asked_for one port asked
    lsi_is one (Ok lsi.Count) none = same_commits one _ _
    lsi_is one (Ok (lsi.Reset other)) none = absurd cc
    lsi_is one (Err sw) none = same_commits one _ _

    abbrev MayAsk : PortView → Type 0
    MayAsk view = (is_common view.port.session c ≡ true)
        × (resets_a_port (lsi_of c view.count) ≡ false)

    lsi_command : (one : WorldState) → is_common (port_in one port).session c ≡ true
        → lsi_made one port c ≡ command_made one port c
    lsi_command one common =
        ap (λ (its : Bool). cond its (lsi_made one port c) (isdr_made one port c)) (sym is_lsi)
        ∙ ap (λ (its : Bool). cond its
        (cond (nat_eq c.ins 0x7A) (lsi_made one port c) (isdr_made one port c))
        (own_made one port c)) (sym common)

    lsi_is_local : (state : WorldState) (made : Made) → MayAsk (view_at state port)
        → made ≡ lsi_made state port c → IsLocal state (events.Apdu port bytes) false made
    lsi_is_local state made may is =
        build state (events.Apdu port bytes) false made
        (λ view. lsi_local view (lsi_of c view.count)) MayAsk
        (λ one asks. inl (
          c,
          spelled,
          lsi_is one (lsi_of c one.durable.heads.ports.count) asks.1 ∙ lsi_command one asks.0,
        )) may
        (is ∙ sym (lsi_is state (lsi_of c state.durable.heads.ports.count) may.1))
        (none_changes (lsi_of c state.durable.heads.ports.count))
        (own_line (lsi_of c state.durable.heads.ports.count))
      where
        none_changes : (asked : Result Lsi Sw)
            → IfSome (lsi_local (view_at state port) asked).change
            (Fits (content_on state.durable port))
        none_changes (Ok lsi.Count) = tt
        none_changes (Ok (lsi.Reset other)) = tt
        none_changes (Err sw) = tt

        own_line : (asked : Result Lsi Sw)
            → IsOwnLine ((port_in state port).statements + 1)
            (lsi_local (view_at state port) asked).line
        own_line (Ok lsi.Count) = refl
        own_line (Ok (lsi.Reset other)) = refl
        own_line (Err sw) = refl

  -- GET RESPONSE on a channel with the ISD-R
  module _ (bytes : List ℕ) (c : Apdu) (spelled : Spells bytes c)
      (not_lsi : nat_eq c.ins 0x7A ≡ false) (not_store : nat_eq c.ins 0xE2 ≡ false) where
    outcome_is : (one : WorldState)
        → desk_outcome (port_in one port).desk one.durable.heads (busy_of one.ports) port c
        ≡ desk_answer (quiet_outcome (port_in one port).desk c).answer
        (quiet_outcome (port_in one port).desk c).exchange
    outcome_is one =
        ap (λ (its : Bool). cond its
        (store_data (exchange_at (port_in one port).desk c.channel) one.durable.heads
        (busy_of one.ports) port c) (quiet_outcome (port_in one port).desk c)) not_store
        ∙ quiet (port_in one port).desk c

    pub isdr_is : (one : WorldState)
        → local_made one port (isdr_local c (view_at one port)) ≡ isdr_made one port c
    isdr_is one =
        let outcome : DeskOutcome = quiet_outcome (port_in one port).desk c in
        let plain : DeskOutcome = desk_answer outcome.answer outcome.exchange in
        let put : PortState = came_at port c.channel plain (port_in one port) in
        let shared : one.shared ≡ one.shared + count_if false = omega arith in
        let commits : one.commits + count_if false ≡ one.commits + count_if false = refl in
        ap (λ (ports : List PortState). record {
          state = state_with one.durable ports one.shared (one.commits + count_if false);
          entries = entry_at one port (lines.Answered (number_in (view_at one port)) outcome.answer
              None) ∷ [];
        }) (sym (none_move port c.channel 0 (slice_set one.ports port put)))
        ∙ ap (λ (n : ℕ). record {
          state = state_with one.durable
              (at_each (λ number. port_moved (kept_on port c.channel number) (move_at [] number)) 0
              (slice_set one.ports port put)) n (one.commits + count_if false);
          entries = entry_at one port (lines.Answered (number_in (view_at one port)) outcome.answer
              None) ∷ [];
        }) (shared ∙ ap (λ (its : Bool). one.shared + count_if its) (sym not_store))
        ∙ ap (isdr_carried one port c) (sym (outcome_is one))

    isdr_command_is : (one : WorldState) → is_common (port_in one port).session c ≡ true
        → isdr_made one port c ≡ command_made one port c
    isdr_command_is one common =
        ap (λ (its : Bool). cond its (lsi_made one port c) (isdr_made one port c)) (sym not_lsi)
        ∙ ap (λ (its : Bool). cond its
        (cond (nat_eq c.ins 0x7A) (lsi_made one port c) (isdr_made one port c))
        (own_made one port c)) (sym common)

    isdr_is_local : (state : WorldState) (made : Made)
        → is_common (port_in state port).session c ≡ true → made ≡ isdr_made state port c
        → IsLocal state (events.Apdu port bytes) false made
    isdr_is_local state made common is =
        build state (events.Apdu port bytes) false made (isdr_local c)
        (λ view. is_common view.port.session c ≡ true)
        (λ one may. inl (c, spelled, isdr_is one ∙ isdr_command_is one may)) common
        (is ∙ sym (isdr_is state)) tt refl

  -- a command that isn't shared
  module _ (state : WorldState) (sound : IsSound (card_in state port)) where
    pub command_is_local : (bytes : List ℕ) (c : Apdu) (made : Made) → Spells bytes c
        → is_shared_at (view_at state port) c ≡ false → made ≡ command_made state port c
        → IsLocal state (events.Apdu port bytes) false made
    command_is_local bytes c made spelled unshared =
        by (is_common (port_in state port).session c) (nat_eq c.ins 0x7A) (nat_eq c.ins 0xE2) refl
        refl refl unshared
      where
        by : (common is_lsi is_store : Bool) → is_common (port_in state port).session c ≡ common
            → nat_eq c.ins 0x7A ≡ is_lsi → nat_eq c.ins 0xE2 ≡ is_store
            → (common && cond is_lsi
            (resets_a_port (lsi_of c state.durable.heads.ports.count)) is_store) ≡ false
            → made ≡ cond common
            (cond is_lsi (lsi_made state port c) (isdr_made state port c)) (own_made state port c)
            → IsLocal state (events.Apdu port bytes) false made
        by true true is_store common is_lsi store none is =
            lsi_is_local bytes c spelled is_lsi state made (common, none) is
        by true false true common is_lsi store none is = absurd cc
        by true false false common is_lsi store none is =
            isdr_is_local bytes c spelled is_lsi store state made common is
        by false is_lsi is_store own test store none is =
            own_is_local state bytes c made sound spelled own is

    bytes_local : (bytes : List ℕ) (made : Made)
        → ((c : Apdu) → Spells bytes c → is_shared_at (view_at state port) c ≡ false)
        → AnswersBytes state port bytes made
        → IsLocal state (events.Apdu port bytes) false made
    bytes_local bytes made unshared (inl spelled) =
        command_is_local bytes spelled.0 made spelled.1 (unshared spelled.0 spelled.1) spelled.2
    bytes_local bytes made unshared (inr none) = unspelled_local state bytes made none.0 none.1

    -- a command that failed
    abbrev pub Counts : PortView → Apdu → Bool
    Counts view c = is_common view.port.session c && is_shared_command c

    not_counted : (c : Apdu) → is_shared_at (view_at state port) c ≡ false
        → Counts (view_at state port) c ≡ false
    not_counted c =
        by (is_common (port_in state port).session c) (nat_eq c.ins 0x7A) (nat_eq c.ins 0xE2) refl
        refl
      where
        by : (common is_lsi is_store : Bool) → nat_eq c.ins 0x7A ≡ is_lsi
            → nat_eq c.ins 0xE2 ≡ is_store
            → (common && cond is_lsi
            (resets_a_port (lsi_of c state.durable.heads.ports.count)) is_store) ≡ false
            → (common && is_store) ≡ false
        by true true true is its none =
            let lsi_ins : c.ins ≡ 0x7A = eqb-true c.ins 0x7A is in
            let store_ins : c.ins ≡ 0xE2 = eqb-true c.ins 0xE2 its in
            absurd (omega (arith, lsi_ins, store_ins))
        by true true false is its none = refl
        by true false is_store is its none = none
        by false is_lsi is_store is its none = refl

    pub failed_is : (one : WorldState) (c : Apdu) (cause : Option Cause)
        → Counts (view_at one port) c ≡ false
        → local_made one port (answered_local (view_at one port)
        (failed_port (port_in one port) c) (failed_answer cause) cause)
        ≡ failed_command one port c cause
    failed_is one c cause none =
        let shared : one.shared ≡ one.shared + count_if false = omega arith in
        same_commits one _ _
        ∙ ap (λ (n : ℕ). record {
          state = state_with one.durable
              (slice_set one.ports port (failed_port (port_in one port) c)) n one.commits;
          entries = entry_at one port
              (lines.Answered (number_in (view_at one port)) (failed_answer cause) cause) ∷ [];
        }) (shared ∙ ap (λ (its : Bool). one.shared + count_if its) (sym none))

    pub failed_local : (bytes : List ℕ) (c : Apdu) (cause : Option Cause) (made : Made)
        → Spells bytes c → Counts (view_at state port) c ≡ false
        → made ≡ failed_command state port c cause
        → IsLocal state (events.Apdu port bytes) true made
    failed_local bytes c cause made spelled uncounted is =
        build state (events.Apdu port bytes) true made
        (λ view. answered_local view (failed_port view.port c) (failed_answer cause) cause)
        (λ view. Counts view c ≡ false)
        (λ one may. (c, cause, spelled, failed_is one c cause may))
        uncounted (is ∙ sym (failed_is state c cause uncounted)) tt refl

    -- the steps of a load but its end
    pub load_local_is : (step : LoadStep) (failed : Bool) (made : Made) → IsUnshared step
        → Happens failed state (events.Load port step) made
        → IsLocal state (events.Load port step) failed made
    load_local_is (steps.Begin metadata) false made unshared is =
        build state (events.Load port (steps.Begin metadata)) false made
        (λ view. load_local view (load_begun view.port.load (metadata_of metadata)))
        (λ view. Unit {0}) (λ one may. same_commits one _ _) tt (is ∙ sym (same_commits state _ _))
        tt refl
    load_local_is (steps.Piece piece) false made unshared is =
        build state (events.Load port (steps.Piece piece)) false made
        (λ view. load_local view (piece_taken view.port.load piece)) (λ view. Unit {0})
        (λ one may. same_commits one _ _) tt (is ∙ sym (same_commits state _ _)) tt refl
    load_local_is steps.End false made unshared is = absurd unshared
    load_local_is (steps.Begin metadata) true made unshared is =
        build state (events.Load port (steps.Begin metadata)) true made
        (λ view. load_local view (record { load = view.port.load; outcome = Memory }))
        (λ view. Unit {0}) (λ one may. same_commits one _ _) tt (is ∙ sym (same_commits state _ _))
        tt refl
    load_local_is (steps.Piece piece) true made unshared is =
        build state (events.Load port (steps.Piece piece)) true made
        (λ view. load_local view (record {
          load = option_map spoiled view.port.load;
          outcome = Memory;
        })) (λ view. Unit {0}) (λ one may. same_commits one _ _) tt
        (is ∙ sym (same_commits state _ _)) tt refl
    load_local_is steps.End true made unshared is = absurd unshared

    pub reset_local : (made : Made) → made ≡ reset_made state port
        → IsLocal state (events.Reset port) false made
    reset_local made is =
        build state (events.Reset port) false made (λ view. record {
          put = counted (reset_port None view.port);
          change = None;
          line = lines.OwnReset (number_in view);
        }) (λ view. Unit {0}) (λ one may. same_commits one _ _) tt
        (is ∙ sym (same_commits state _ _)) tt refl

    -- a statement that stays at its port is such a one
    pub stays_local : (failed : Bool) (event : Event) (made : Made)
        → StaysAt port (view_at state port) event → Happens failed state event made
        → IsLocal state event failed made
    stays_local false (events.Apdu came bytes) made stays =
        subst (λ (n : ℕ). Happens false state (events.Apdu n bytes) made
        → IsLocal state (events.Apdu n bytes) false made) (sym stays.0)
        (bytes_local bytes made stays.1)
    stays_local false (events.Reset came) made stays =
        subst (λ (n : ℕ). Happens false state (events.Reset n) made
        → IsLocal state (events.Reset n) false made) (sym stays) (reset_local made)
    stays_local failed (events.Load came step) made stays =
        subst (λ (n : ℕ). Happens failed state (events.Load n step) made
        → IsLocal state (events.Load n step) failed made) (sym stays.0)
        (load_local_is step failed made stays.1)
    stays_local false events.Power made stays = absurd stays
    stays_local true (events.Apdu came bytes) made stays =
        subst (λ (n : ℕ). Happens true state (events.Apdu n bytes) made
        → IsLocal state (events.Apdu n bytes) true made) (sym stays.0)
        (λ is. failed_local bytes is.0 is.1 made is.2
        (not_counted is.0 (stays.1 is.0 is.2)) is.3)
    stays_local true (events.Reset came) made stays = λ is. absurd is
    stays_local true events.Power made stays = absurd stays
