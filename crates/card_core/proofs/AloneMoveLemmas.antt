-- A statement for the ISD-R beside the card of a profile alone.
use Rattle.std.proofs.Common.{◌≡◌, ◌≢◌, ◌≤◌, ◌<◌, ◌+◌, ℕ, Bool, true, false, cond, nat_eq, List, []}
use Rattle.std.proofs.Common.{◌∷◌, ◌++◌, length, Option, Some, None, refl, sym, ◌∙◌, ap, subst}
use Rattle.std.proofs.Common.{arith}
use Rattle.std.proofs.Common.{inl, inr, length-set}
use Rattle.std.proofs.lemmas.Bool.{eqb-false, true≢false}
use Rattle.std.proofs.lemmas.Option.{get_or_from_slice_get, none-some, slice_get_within}
use Rattle.std.specs.List.{AllByRecursion}
use Rattle.std.specs.Prelude.{IfSome, slice_index_or, slice_set}
use Rattle.apdu_codec.specs.Command.{Apdu, Spells}
use Rattle.file_rows.specs.declared.content.Content.{Content}
use Rattle.isdr_commands.specs.Laws.{IsMoved}
use Rattle.isdr_commands.specs.declared.moves.Move.{Move}
use Rattle.lsi_refresh.specs.Lsi.{lsi_of}
use Rattle.notify_list.proofs.NoteLemmas.{any_of_none}
use Rattle.port_table.proofs.PortOfLemmas.{none_stands, stands as found_stands}
use Rattle.port_table.specs.PortOf.{port_of}
use Rattle.port_table.specs.Ports.{StandsNowhere, StandsOn}
use Rattle.port_table.specs.declared.port_mode.PortMode.{PortMode}
use Rattle.profile_card.specs.Card.{Card}
use Rattle.profile_card.specs.Own.{is_common}
use Rattle.profile_card.specs.Step.{Event as CardEvent, StepsAt, silent}
use Rattle.profile_card.specs.Step.Event.{Bound as BoundTo, Command, Unbound as Freed}
use Rattle.record_codec.proofs.HeldLemmas.{content_none}
use Rattle.record_codec.proofs.LocalLemmas.{contents_stay}
use Rattle.record_codec.specs.Apply.{apply}
use Rattle.record_codec.specs.Gone.{is_among}
use Rattle.record_codec.specs.Heads.{IsHeld, content_at, held_content}
use Rattle.record_codec.specs.IsDurable.{IsDurable}
use Rattle.record_codec.specs.declared.durable.Durable.{Durable}
use Rattle.record_codec.specs.declared.profile.ProfileHead.{ProfileHead}
use Rattle.record_codec.specs.declared.record.Record.{Record}
use Rattle.record_codec.specs.declared.record.Record.TheVariants as records
use Rattle.uicc_channels.specs.Session.{fresh_session}
use Rattle.card_core.proofs.AloneLemmas.{IsNow, bytes_here, bytes_not_here, given_here, given_not}
use Rattle.card_core.proofs.AloneLemmas.{goes_quiet, goes_told, now_at, standing_below}
use Rattle.card_core.proofs.AloneLemmas.{steps_nowhere}
use Rattle.card_core.proofs.AloneStepLemmas.{GoesBy, card_here, here_or_not, port_below}
use Rattle.card_core.proofs.CarriedLemmas.{IsCarried, IsOfRequest, desk_carried}
use Rattle.card_core.proofs.GivenLemmas.{come_by, given_by, given_by_move, lines_give, move_found}
use Rattle.card_core.proofs.MovedLemmas.{card_at_unmoved, count_stays, mode_stays, none_at}
use Rattle.card_core.proofs.MovedLemmas.{not_held}
use Rattle.card_core.proofs.MovedLemmas.{stands}
use Rattle.card_core.proofs.PortLemmas.{found_held}
use Rattle.card_core.proofs.SeenLemmas.{each_at, seen_alike}
use Rattle.card_core.proofs.StoodLemmas.{comes_alone, comes_not, it_comes, it_leaves, leaves_none}
use Rattle.card_core.proofs.StoodLemmas.{none_comes, none_leaves, not_unmoved, then_nowhere}
use Rattle.card_core.proofs.StepShareLemmas.{SharesOwn, lines_given, share_of_command}
use Rattle.card_core.specs.Alone.{IsOnNoPort}
use Rattle.card_core.specs.Desk.{desk_outcome}
use Rattle.card_core.specs.DeskOutcome.{DeskOutcome}
use Rattle.card_core.specs.IsdrCommand.{busy_of, came_at, isdr_made, kept_on, kept_told, move_at}
use Rattle.card_core.specs.IsdrCommand.{port_moved, telling_of}
use Rattle.card_core.specs.Port.{content_on, profile_on}
use Rattle.card_core.specs.PortState.{PortState, fresh_port}
use Rattle.card_core.specs.Recorded.{recorded}
use Rattle.card_core.specs.Share.{answers_in}
use Rattle.card_core.specs.Share.{given_by_lsi, no_share}
use Rattle.card_core.specs.Sound.{IsSoundState}
use Rattle.card_core.specs.Stepped.{Stepped}
use Rattle.card_core.specs.World.{Made, WorldState, card_in, card_on, port_in}
use Rattle.card_core.specs.declared.event.Event.TheVariants as events
use Rattle.card_core.specs.declared.telling.Telling.{Telling}

module _ (durable : Durable) where
  entry_next : (entry : Record) → IsOfRequest entry
      → (apply durable entry).heads.next_number ≡ durable.heads.next_number
  entry_next (records.PutCard mode ports eid next_number next_note notes) kind = absurd kind
  entry_next (records.PutProfile installation put port) kind = absurd kind
  entry_next (records.Content other change) kind = absurd kind
  entry_next (records.Bind bound port displaced) kind = refl
  entry_next (records.Unbind bound) kind = refl
  entry_next (records.Gone numbers) kind = refl
  entry_next (records.Name named nickname) kind = refl
  entry_next (records.NoteGone number) kind = refl

  -- a request leaves the next number
  pub next_stays : (entry : Option Record) → IfSome entry IsOfRequest
      → (recorded durable entry).heads.next_number ≡ durable.heads.next_number
  next_stays None kind = refl
  next_stays (Some entry) kind = entry_next entry kind

  module _ (are : IsDurable durable) (profile : ℕ) (its : Content) where
    gone_was : (numbers : List ℕ) (among : Bool) → is_among numbers profile ≡ among
        → held_content profile (apply durable (records.Gone numbers)) ≡ Some its
        → held_content profile durable ≡ Some its
    gone_was numbers true is held =
        absurd (none-some its (sym (content_none profile
        (apply durable (records.Gone numbers)).heads.profiles
        (apply durable (records.Gone numbers)).contents
        (not_held numbers profile is durable.heads.profiles)) ∙ held))
    gone_was numbers false is held =
        sym (contents_stay durable (records.Gone numbers) profile are.contents.pairs
        (λ among. true≢false (sym among ∙ is))) ∙ held

    entry_was : (entry : Record) → IsOfRequest entry
        → held_content profile (apply durable entry) ≡ Some its
        → held_content profile durable ≡ Some its
    entry_was (records.PutCard mode ports eid next_number next_note notes) kind held = absurd kind
    entry_was (records.PutProfile installation put port) kind held = absurd kind
    entry_was (records.Content other change) kind held = absurd kind
    entry_was (records.Bind bound port displaced) kind held = held
    entry_was (records.Unbind bound) kind held = held
    entry_was (records.Gone numbers) kind held =
        gone_was numbers (is_among numbers profile) refl held
    entry_was (records.Name named nickname) kind held =
        sym (contents_stay durable (records.Name named nickname) profile are.contents.pairs
        (λ touches. touches)) ∙ held
    entry_was (records.NoteGone number) kind held = held

    -- a content that is held after a request was held before
    held_was : (entry : Option Record) → IfSome entry IsOfRequest
        → held_content profile (recorded durable entry) ≡ Some its
        → held_content profile durable ≡ Some its
    held_was None kind held = held
    held_was (Some entry) kind held = entry_was entry kind held

-- a profile that is held has a content
none_found : (profile : ℕ) (heads : List ProfileHead) (contents : List Content)
    → length contents ≡ length heads → content_at profile heads contents ≡ None
    → AllByRecursion (λ (head : ProfileHead). head.number ≡ profile → ⊥) heads
none_found profile [] contents pairs none = tt
none_found profile (head ∷ heads) [] pairs none = absurd (omega (arith, pairs))
none_found profile (head ∷ heads) (content ∷ contents) pairs none =
    by (nat_eq head.number profile) refl
    (λ found. none_found profile heads contents (omega (arith, pairs)) found) none
  where
    by : (same : Bool) → nat_eq head.number profile ≡ same
        → (content_at profile heads contents ≡ None
        → AllByRecursion (λ (one : ProfileHead). one.number ≡ profile → ⊥) heads)
        → cond same (Some content) (content_at profile heads contents) ≡ None
        → AllByRecursion (λ (one : ProfileHead). one.number ≡ profile → ⊥) (head ∷ heads)
    by true is rest found = absurd cc
    by false is rest found = (eqb-false head.number profile is, rest found)

held_some : (durable : Durable) → IsDurable durable → (profile : ℕ)
    → IsHeld profile durable.heads.profiles → held_content profile durable ≡ None → ⊥
held_some durable are profile held none =
    any_of_none (λ (head : ProfileHead). head.number ≡ profile) durable.heads.profiles
    (none_found profile durable.heads.profiles durable.contents are.contents.pairs none) held

each_of : {X : Type 0} (P Q : X → Type 0) (xs : List X) → ((x : X) → P x → Q x)
    → AllByRecursion P xs → AllByRecursion Q xs
each_of P Q [] goes each = tt
each_of P Q (x ∷ xs) goes each = (goes x each.0, each_of P Q xs goes each.1)

module _ (profile : ℕ) (content : Content) (state : WorldState) (sound : IsSoundState state)
    (card : Card) (now : IsNow profile content state card) (came : ℕ) (bytes : List ℕ) (c : Apdu)
    (spelled : Spells bytes c) (common : is_common (port_in state came).session c ≡ true)
    (not_lsi : nat_eq c.ins 0x7A ≡ false) (below : came < state.durable.heads.ports.count)
    (are : IsDurable (isdr_made state came c).state.durable) where
  abbrev outcome : DeskOutcome
  outcome = desk_outcome (port_in state came).desk state.durable.heads (busy_of state.ports) came c

  abbrev moves : List Move
  moves = outcome.moves

  carried : IsCarried state.durable outcome.entry outcome.moves
  carried = desk_carried state.durable sound.are (busy_of state.ports) came below
      (port_in state came).desk c

  abbrev made : Made
  made = isdr_made state came c

  abbrev before : Durable
  before = state.durable

  abbrev after : Durable
  after = recorded state.durable outcome.entry

  abbrev step : Stepped
  step = record { before = state; event = events.Apdu came bytes; failed = false; made = made }

  abbrev telling : Telling
  telling = telling_of state came c.channel

  -- its answer is no profile's
  share_is : no_share ≡ share_of_command step came bytes c
  share_is =
      ap (λ (its : Bool). record {
        given = cond its (given_by_lsi came (lsi_of c state.durable.heads.ports.count)) [];
        answers = [];
      }) (sym not_lsi)
      ∙ ap (λ (its : Bool). cond its (record {
        given = cond (nat_eq c.ins 0x7A)
            (given_by_lsi came (lsi_of c state.durable.heads.ports.count)) [];
        answers = [];
      }) (record { given = Command bytes ∷ []; answers = answers_in made.entries })) (sym common)

  no_own : SharesOwn profile step false no_share
  no_own = elim (here_or_not profile (profile_on state.durable came)) [
    | inl on ↦ bytes_here profile content step came bytes no_share on (inl (c, spelled, share_is))
    | inr apart ↦ bytes_not_here profile content step came bytes apart
  ]

  abbrev Gives : Move → List CardEvent
  Gives = given_by_move profile state telling

  nothing_given : (move : Move) → move.leaves ≢ Some profile → move.comes ≢ Some profile
      → Gives move ≡ []
  nothing_given move left come =
      ap (λ (its : List CardEvent). its ++ come_by profile state telling move move.comes)
      (given_not profile move.leaves (Freed ∷ []) left)
      ∙ given_not profile move.comes _ come

  lines_are : (port : ℕ)
      → ((move : Move) → IsMoved before.heads.ports after.heads.ports move → move.port ≢ port
      → Gives move ≡ [])
      → lines_given profile step ≡ given_by Gives (move_at moves port)
  lines_are port none =
      lines_give profile state telling port moves carried.moves.once
      (each_of (IsMoved before.heads.ports after.heads.ports)
      (λ move. move.port ≢ port → Gives move ≡ []) moves none carried.moves.each)

  -- the ports afterwards
  abbrev put : PortState
  put = came_at came c.channel outcome (port_in state came)

  port_then : (port : ℕ) → port < length state.ports
      → port_in made.state port ≡ port_moved (kept_on came c.channel port) (move_at moves port)
      (slice_index_or (slice_set state.ports came put) port fresh_port)
  port_then port less =
      let zero_is : 0 + port ≡ port = omega arith in
      let within : port < length (slice_set state.ports came put) =
      omega (arith, less, length-set state.ports came put) in
      each_at (λ number. port_moved (kept_on came c.channel number) (move_at moves number)) 0
      (slice_set state.ports came put) port within
      ∙ ap (λ (n : ℕ). port_moved (kept_on came c.channel n) (move_at moves n)
      (slice_index_or (slice_set state.ports came put) port fresh_port)) zero_is

  session_then : (port : ℕ) → port < length state.ports → (move : Option Move)
      → move_at moves port ≡ move
      → (port_in made.state port).session
      ≡ (port_moved (kept_on came c.channel port) move
      (slice_index_or (slice_set state.ports came put) port fresh_port)).session
  session_then port less move is =
      ap (λ (its : PortState). its.session) (port_then port less)
      ∙ ap (λ (its : Option Move). (port_moved (kept_on came c.channel port) its
      (slice_index_or (slice_set state.ports came put) port fresh_port)).session) is

  session_unmoved : (port : ℕ) → port < length state.ports → move_at moves port ≡ None
      → (port_in made.state port).session ≡ (port_in state port).session
  session_unmoved port less none =
      session_then port less None none
      ∙ seen_alike (λ its. its.session) state.ports came port put refl

  -- a profile that stands on a port
  module _ (port : ℕ) (on : profile_on state.durable port ≡ Some profile) where
    less : port < length state.ports
    less = port_below profile content state sound card now port on

    stood : StandsOn before.heads.ports profile port
    stood = stands before.heads.ports.on port profile on

    is_there : card ≡ card_in state port
    is_there = card_here profile content state sound card now port on

    others_give_nothing : lines_given profile step ≡ given_by Gives (move_at moves port)
    others_give_nothing =
        lines_are port (λ move moved apart. nothing_given move
        (none_leaves before sound.are outcome.entry moves carried profile port stood move moved
        apart)
        (none_comes before sound.are outcome.entry moves carried profile port stood move moved
        apart))

    unmoved : move_at moves port ≡ None → GoesBy profile content state sound card now
        (events.Apdu came bytes) false made
    unmoved none =
        goes_quiet profile content step card no_own
        (others_give_nothing ∙ ap (given_by Gives) none)
        (now_at profile content made.state card port are
        (get_or_from_slice_get after.heads.ports.on port (Some profile) None
        (carried.moves.others port (none_at moves port none) ∙ stood))
        (is_there
        ∙ sym (card_at_unmoved before sound.are outcome.entry moves carried are port
        (port_in state port).session none)
        ∙ ap (card_on after port) (sym (session_unmoved port less none))))

    abbrev freed : Card
    freed = record card { port = None }

    leaves : (move : Move) → move_at moves port ≡ Some move
        → GoesBy profile content state sound card now (events.Apdu came bytes) false made
    leaves move found =
        goes_told profile content step card freed Freed no_own
        (others_give_nothing ∙ ap (given_by Gives) found
        ∙ ap (λ (its : List CardEvent). its ++ come_by profile state telling move move.comes)
        (given_here profile move.leaves (Freed ∷ [])
        (it_leaves before sound.are outcome.entry moves carried profile port stood move found))
        ∙ ap (λ (its : List CardEvent). Freed ∷ its)
        (given_not profile move.comes _
        (comes_not before sound.are outcome.entry moves carried profile port stood move found)))
        (subst (λ (its : Option ℕ). StepsAt its card Freed (silent freed))
        (sym (ap (λ (its : Card). its.port) is_there)) refl)
        (record {
          its = inr (record {
            nowhere = λ other there. then_nowhere before sound.are outcome.entry moves carried
                profile port stood move found other
                (stands after.heads.ports.on other profile there);
            port = refl;
            mode = ap (λ (its : Card). its.mode) is_there
                ∙ sym (mode_stays before outcome.entry carried.kind);
            content = λ its held.
                ap (λ (one : Card). one.content) is_there
                ∙ found_held before port profile its on
                (held_was before sound.are profile its outcome.entry carried.kind held);
          });
          pending = λ low. absurd (standing_below before sound.are profile port on
              (let same : after.heads.next_number ≡ before.heads.next_number =
              next_stays before outcome.entry carried.kind in omega (arith, same, low)));
        })

    at_port : (move : Option Move) → move_at moves port ≡ move
        → GoesBy profile content state sound card now (events.Apdu came bytes) false made
    at_port None is = unmoved is
    at_port (Some move) is = leaves move is

  -- one that stands on none
  module _ (none : IsOnNoPort profile state card) where
    stood_nowhere : StandsNowhere before.heads.ports profile
    stood_nowhere port on =
        none.nowhere port (get_or_from_slice_get before.heads.ports.on port (Some profile) None on)

    pending_then : after.heads.next_number ≤ profile → card.content ≡ content
    pending_then low =
        let same : after.heads.next_number ≡ before.heads.next_number =
        next_stays before outcome.entry carried.kind in
        now.pending (omega (arith, same, low))

    held_then : (its : Content) → held_content profile after ≡ Some its → card.content ≡ its
    held_then its held =
        none.content its (held_was before sound.are profile its outcome.entry carried.kind held)

    mode_then : card.mode ≡ after.heads.ports.mode
    mode_then = none.mode ∙ sym (mode_stays before outcome.entry carried.kind)

    stays_nowhere : port_of profile after.heads.ports.on ≡ None
        → GoesBy profile content state sound card now (events.Apdu came bytes) false made
    stays_nowhere is =
        goes_quiet profile content step card no_own
        (lines_are 0 (λ move moved apart. gives_nothing move moved)
        ∙ none_found_at (move_at moves 0) refl)
        (record {
          its = inr (record {
            nowhere = λ port on. not_then port (stands after.heads.ports.on port profile on);
            port = none.port;
            mode = mode_then;
            content = held_then;
          });
          pending = pending_then;
        })
      where
        not_then : (port : ℕ) → StandsOn after.heads.ports profile port → ⊥
        not_then port on = none_stands profile after.heads.ports.on port is on

        gives_nothing : (move : Move) → IsMoved before.heads.ports after.heads.ports move
            → Gives move ≡ []
        gives_nothing move moved =
            nothing_given move
            (leaves_none before sound.are outcome.entry moves carried profile stood_nowhere move
            moved)
            (λ comes. not_then move.port (moved.came ∙ ap (λ (its : Option ℕ). Some its) comes))

        none_found_at : (found : Option Move) → move_at moves 0 ≡ found
            → given_by Gives found ≡ []
        none_found_at None is_none = refl
        none_found_at (Some move) is_some =
            gives_nothing move (move_found (IsMoved before.heads.ports after.heads.ports) moves 0
            move carried.moves.each is_some).1

    -- it comes to a port
    module _ (port : ℕ) (then_on : StandsOn after.heads.ports profile port) (move : Move)
        (found : move_at moves port ≡ Some move) where
      its_move : (move.port ≡ port) × (move.comes ≡ Some profile)
      its_move = it_comes before sound.are outcome.entry moves carried profile stood_nowhere port
          then_on are move found

      on_then : profile_on after port ≡ Some profile
      on_then = get_or_from_slice_get after.heads.ports.on port (Some profile) None then_on

      less_then : port < length state.ports
      less_then =
          let within : port < length after.heads.ports.on =
          slice_get_within after.heads.ports.on port (Some profile) then_on in
          let places : length after.heads.ports.on ≡ after.heads.ports.count =
          are.heads.ports.rule.count in
          let same : after.heads.ports.count ≡ before.heads.ports.count =
          count_stays before outcome.entry carried.kind in
          let ports : length state.ports ≡ before.heads.ports.count = sound.count in
          omega (arith, within, places, same, ports)

      abbrev bound_on : ℕ → Card
      bound_on number = record card {
        session = fresh_session move.refresh (kept_told telling number);
        port = Some number;
      }

      content_by : (held : Option Content) → held_content profile after ≡ held
          → card.content ≡ content_on after port
      content_by None is =
          absurd (held_some after are profile
          (are.heads.ports.held profile port then_on) is)
      content_by (Some its) is =
          held_then its is ∙ sym (found_held after port profile its on_then is)

      bound_is : bound_on port ≡ card_in made.state port
      bound_is =
          ap (λ (its : Content). record {
            content = its;
            session = fresh_session move.refresh (kept_told telling port);
            mode = card.mode;
            port = Some port;
          }) (content_by (held_content profile after) refl)
          ∙ ap (λ (its : PortMode). record {
            content = content_on after port;
            session = fresh_session move.refresh (kept_told telling port);
            mode = its;
            port = Some port;
          }) mode_then
          ∙ ap (card_on after port) (sym (session_then port less_then (Some move) found))

      comes : GoesBy profile content state sound card now (events.Apdu came bytes) false made
      comes =
          goes_told profile content step card (bound_on move.port)
          (BoundTo move.port move.refresh (kept_told telling move.port)) no_own
          (lines_are port (λ other moved apart. nothing_given other
          (leaves_none before sound.are outcome.entry moves carried profile stood_nowhere other
          moved)
          (comes_alone before sound.are outcome.entry moves carried profile stood_nowhere port
          then_on are other moved apart))
          ∙ ap (given_by Gives) found
          ∙ ap (λ (its : List CardEvent). its ++ come_by profile state telling move move.comes)
          (given_not profile move.leaves (Freed ∷ [])
          (leaves_none before sound.are outcome.entry moves carried profile stood_nowhere move
          (move_found (IsMoved before.heads.ports after.heads.ports) moves port move
          carried.moves.each found).1))
          ∙ given_here profile move.comes _ its_move.1)
          (steps_nowhere card
          (BoundTo move.port move.refresh (kept_told telling move.port))
          (silent (bound_on move.port)) none.port refl)
          (now_at profile content made.state (bound_on move.port) port are on_then
          (ap bound_on its_move.0 ∙ bound_is))

    by_move : (port : ℕ) → StandsOn after.heads.ports profile port → (move : Option Move)
        → move_at moves port ≡ move
        → GoesBy profile content state sound card now (events.Apdu came bytes) false made
    by_move port then_on None is =
        absurd (not_unmoved before sound.are outcome.entry moves carried profile stood_nowhere port
        then_on are is)
    by_move port then_on (Some move) is = comes port then_on move is

    at_none : (place : Option ℕ) → port_of profile after.heads.ports.on ≡ place
        → GoesBy profile content state sound card now (events.Apdu came bytes) false made
    at_none None is = stays_nowhere is
    at_none (Some port) is =
        let then_on : StandsOn after.heads.ports profile port =
        found_stands profile after.heads.ports.on port is in
        by_move port then_on (move_at moves port) refl

  -- a statement for the ISD-R gives the profile what its moves do
  pub isdr_goes : GoesBy profile content state sound card now (events.Apdu came bytes) false made
  isdr_goes = elim now.its [
    | inl at ↦ at_port at.0 at.1 (move_at moves at.0) refl
    | inr none ↦ at_none none (port_of profile after.heads.ports.on) refl
  ]
