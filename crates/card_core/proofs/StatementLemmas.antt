-- What any statement at a port counts, and its lines.
use Rattle.std.proofs.Common.{◌≡◌, ◌≢◌, ◌⊎◌, ◌<◌, ◌+◌, ℕ, zero, suc, Bool, true, false, cond}
use Rattle.std.proofs.Common.{nat_eq}
use Rattle.std.proofs.Common.{List, [], ◌∷◌, ◌++◌, length, Option, Some, None, Result, Ok, Err}
use Rattle.std.proofs.Common.{refl, sym}
use Rattle.std.proofs.Common.{◌∙◌, ap, subst, arith, inl, inr, eqb-true, flat_map}
use Rattle.std.proofs.lemmas.Bool.{eqb-false}
use Rattle.std.proofs.lemmas.List.Elements.{filter-append}
use Rattle.std.proofs.lemmas.Option.{slice_get_within}
use Rattle.std.specs.List.{AllByRecursion}
use Rattle.std.specs.Prelude.{slice_index_or, slice_set}
use Rattle.apdu_codec.specs.Answer.{status_alone}
use Rattle.apdu_codec.specs.Command.{Apdu}
use Rattle.apdu_codec.specs.declared.status.Sw.{Sw}
use Rattle.apdu_codec.specs.declared.status.TheConstants.Sw.{OK}
use Rattle.isdr_commands.specs.Laws.{IsMoved}
use Rattle.isdr_commands.specs.declared.moves.Move.{Move}
use Rattle.lsi_refresh.specs.Lsi.{lsi_of}
use Rattle.lsi_refresh.specs.declared.lsi.Lsi.{Lsi}
use Rattle.lsi_refresh.specs.declared.lsi.Lsi.TheVariants as lsi
use Rattle.plain_lists.specs.EachTwo.{EachTwo}
use Rattle.profile_card.specs.Own.{is_common}
use Rattle.record_codec.specs.declared.durable.Durable.{Durable}
use Rattle.card_core.proofs.CameLemmas.{state_with}
use Rattle.card_core.proofs.CardStepLemmas.{there}
use Rattle.card_core.proofs.CarriedLemmas.{IsCarried, desk_carried}
use Rattle.card_core.proofs.LineLemmas.{IsToldAt, ResetsBelow, away_alike, lsi_below, other_told}
use Rattle.card_core.proofs.LineLemmas.{others_by_port, own_before, own_first, own_maker, own_then}
use Rattle.card_core.proofs.LineLemmas.{others_quiet, own_quiet, own_tells, own_told, telling_lines}
use Rattle.card_core.proofs.LocalLemmas.{IsOwnLine}
use Rattle.card_core.proofs.RankLemmas.{AtMost, each_given, each_joined}
use Rattle.card_core.proofs.RankLemmas.{each_two_given, each_weaker}
use Rattle.card_core.proofs.SeenLemmas.{seen_alike}
use Rattle.card_core.proofs.StayLemmas.{other_port}
use Rattle.card_core.specs.Desk.{desk_outcome}
use Rattle.card_core.specs.DeskOutcome.{DeskOutcome}
use Rattle.card_core.specs.IsdrCommand.{at_each, busy_of, came_at, is_shared_command, isdr_made}
use Rattle.card_core.specs.IsdrCommand.{kept_on, move_at, other_move_lines}
use Rattle.card_core.specs.IsdrCommand.{own_move_lines, port_moved, telling_of}
use Rattle.card_core.specs.ManageLsi.{counted_at, lsi_asked_for, lsi_made}
use Rattle.card_core.specs.Merge.{ComesToPort, maker_of, tells_statement}
use Rattle.card_core.specs.OwnCommand.{own_made}
use Rattle.card_core.specs.PortState.{PortState, counted, fresh_port, reset_port}
use Rattle.card_core.specs.Recorded.{recorded}
use Rattle.card_core.specs.Run.{IsOnCard}
use Rattle.card_core.specs.Sound.{IsSoundState}
use Rattle.card_core.specs.Failed.{FailsLoadWith}
use Rattle.card_core.specs.Statements.{AnswersBytes, MakesLoadStep, command_made}
use Rattle.card_core.specs.Stepped.{Happens}
use Rattle.card_core.specs.World.{Made, WorldState, answered_line, count_if, entry_at}
use Rattle.card_core.specs.World.{next_maker, port_in}
use Rattle.card_core.specs.declared.entry.Entry.{Entry}
use Rattle.card_core.specs.declared.entry.Line.{Line}
use Rattle.card_core.specs.declared.entry.Line.TheVariants as lines
use Rattle.card_core.specs.declared.event.Event.{Event}
use Rattle.card_core.specs.declared.event.Event.TheVariants as events
use Rattle.card_core.specs.declared.event.LoadStep.{LoadStep}
use Rattle.card_core.specs.declared.event.LoadStep.TheVariants as steps
use Rattle.card_core.specs.declared.telling.Telling.{Telling}

-- the port of a statement
abbrev pub its_port : Event → ℕ
its_port (events.Apdu port bytes) = port
its_port (events.Reset port) = port
its_port (events.Load port step) = port
its_port events.Power = 0

-- a line that a statement at a port made on a card
pub record IsLineOf (port : ℕ) (state : WorldState) (entry : Entry) : Type 0 where
  pub turn : entry.turn ≡ state.shared
  pub maker : maker_of entry ≡ next_maker state port
  pub within : entry.port < state.durable.heads.ports.count

pub record IsStatementMade (port : ℕ) (state : WorldState) (made : Made) : Type 0 where
  pub lines : AllByRecursion (IsLineOf port state) made.entries
  pub order : EachTwo (AtMost (own_first port)) made.entries
  pub counts : (number : ℕ) → (port_in made.state number).statements
      ≡ (port_in state number).statements + count_if (nat_eq number port)
  pub shared : (made.state.shared ≡ state.shared) ⊎ (made.state.shared ≡ state.shared + 1)
  pub tells : (one : Entry) × (telling_lines made.entries ≡ one ∷ [])

-- one more statement at the port that is put
put_counts : (ports : List PortState) (port : ℕ) (put : PortState) → port < length ports
    → put.statements ≡ (slice_index_or ports port fresh_port).statements + 1 → (number : ℕ)
    → (slice_index_or (slice_set ports port put) number fresh_port).statements
    ≡ (slice_index_or ports number fresh_port).statements + count_if (nat_eq number port)
put_counts ports port put below is number = by (nat_eq number port) refl
  where
    by : (here : Bool) → nat_eq number port ≡ here
        → (slice_index_or (slice_set ports port put) number fresh_port).statements
        ≡ (slice_index_or ports number fresh_port).statements + count_if here
    by true same =
        let equal : number ≡ port = eqb-true number port same in
        ap (λ (n : ℕ). (slice_index_or (slice_set ports port put) n fresh_port).statements) equal
        ∙ ap (λ (its : PortState). its.statements) (there ports port put below) ∙ is
        ∙ ap (λ (n : ℕ). (slice_index_or ports n fresh_port).statements + 1) (sym equal)
    by false apart =
        let none : (slice_index_or ports number fresh_port).statements
        ≡ (slice_index_or ports number fresh_port).statements + 0 = omega arith in
        ap (λ (its : PortState). its.statements)
        (other_port ports port number put (eqb-false number port apart)) ∙ none

-- what each change leaves alike
each_alike : (change : ℕ → PortState → PortState)
    → ((number : ℕ) (port : PortState) → (change number port).statements ≡ port.statements)
    → (first : ℕ) (ports : List PortState) (number : ℕ)
    → (slice_index_or (at_each change first ports) number fresh_port).statements
    ≡ (slice_index_or ports number fresh_port).statements
each_alike change alike first [] number = refl
each_alike change alike first (port ∷ ports) zero = alike first port
each_alike change alike first (port ∷ ports) (suc number) =
    each_alike change alike (first + 1) ports number

moved_alike : (kept : Option ℕ) (move : Option Move) (port : PortState)
    → (port_moved kept move port).statements ≡ port.statements
moved_alike kept None port = refl
moved_alike kept (Some move) port = refl

module _ (state : WorldState) (sound : IsSoundState state) (port : ℕ)
    (below : port < state.durable.heads.ports.count) where
  abbrev number : ℕ
  number = (port_in state port).statements + 1

  is_place : port < length state.ports
  is_place = let same : length state.ports ≡ state.durable.heads.ports.count = sound.count in
      omega (arith, below, same)

  own_line : (line : Line) → IsOwnLine number line → IsLineOf port state (entry_at state port line)
  own_line line own =
      record { turn = refl; maker = own_maker port number line own; within = below }

  -- a statement that puts its own port and has one line
  put_statement : (durable : Durable) (put : PortState) (shared commits : ℕ) (line : Line)
      → put.statements ≡ number → (shared ≡ state.shared) ⊎ (shared ≡ state.shared + 1)
      → IsOwnLine number line
      → IsStatementMade port state (record {
        state = state_with durable (slice_set state.ports port put) shared commits;
        entries = entry_at state port line ∷ [];
      })
  put_statement durable put shared commits line counted counts own = record {
    lines = (own_line line own, tt);
    order = (tt, tt);
    counts = put_counts state.ports port put is_place counted;
    shared = counts;
    tells = (
      entry_at state port line,
      ap (λ (tells : Bool). cond tells (entry_at state port line ∷ []) [])
          (own_tells number line own),
    );
  }

  count_either : (is_so : Bool)
      → (state.shared + count_if is_so ≡ state.shared)
      ⊎ (state.shared + count_if is_so ≡ state.shared + 1)
  count_either true = inr refl
  count_either false = inl (omega arith)

  own_statement : (c : Apdu) → IsStatementMade port state (own_made state port c)
  own_statement c = put_statement _ _ state.shared _ _ refl (inl refl) refl

  abbrev reset_line : ℕ → Bool → List Entry
  reset_line other here =
      cond here [] (entry_at state other (lines.ForeignReset (next_maker state port)) ∷ [])

  lsi_statement : (asked : Result Lsi Sw) → ResetsBelow state.durable.heads.ports.count asked
      → IsStatementMade port state (lsi_asked_for state port asked)
  lsi_statement (Ok lsi.Count) within = put_statement _ _ state.shared _ _ refl (inl refl) refl
  lsi_statement (Err sw) within = put_statement _ _ state.shared _ _ refl (inl refl) refl
  lsi_statement (Ok (lsi.Reset other)) within = record {
    lines = (own_line _ refl, foreign (nat_eq other port));
    order = (before (nat_eq other port) refl, alone (nat_eq other port));
    counts = λ place.
        seen_alike (λ its. its.statements) (counted_at state port).ports other place
        (reset_port None (port_in (counted_at state port) other)) refl
        ∙ put_counts state.ports port (counted (port_in state port)) is_place refl place;
    shared = inr refl;
    tells = (
      answered_line state port (status_alone OK),
      ap (λ (its : List Entry). answered_line state port (status_alone OK) ∷ its)
          (quiet (nat_eq other port)),
    );
  }
    where
      quiet : (here : Bool) → telling_lines (reset_line other here) ≡ []
      quiet true = refl
      quiet false = refl

      foreign : (here : Bool) → AllByRecursion (IsLineOf port state) (reset_line other here)
      foreign true = tt
      foreign false = (record { turn = refl; maker = refl; within = within }, tt)

      before : (here : Bool) → nat_eq other port ≡ here
          → AllByRecursion (AtMost (own_first port)
          (entry_at state port (lines.Answered number (status_alone OK) None)))
          (reset_line other here)
      before true is = tt
      before false is = (
        own_before port (entry_at state port (lines.Answered number (status_alone OK) None))
            (entry_at state other (lines.ForeignReset (next_maker state port))) refl
            (eqb-false other port is),
        tt,
      )

      alone : (here : Bool) → EachTwo (AtMost (own_first port)) (reset_line other here)
      alone true = tt
      alone false = (tt, tt)

  module _ (c : Apdu) where
    abbrev outcome : DeskOutcome
    outcome = desk_outcome (port_in state port).desk state.durable.heads (busy_of state.ports)
        port c

    carried : IsCarried state.durable outcome.entry outcome.moves
    carried = desk_carried state.durable sound.are (busy_of state.ports) port below
        (port_in state port).desk c

    abbrev telling : Telling
    telling = telling_of state port c.channel

    abbrev put : PortState
    put = came_at port c.channel outcome (port_in state port)

    abbrev change : ℕ → PortState → PortState
    change place = port_moved (kept_on port c.channel place) (move_at outcome.moves place)

    abbrev answer : Entry
    answer = entry_at state port (lines.Answered number outcome.answer None)

    abbrev own : List Entry
    own = flat_map (own_move_lines telling) outcome.moves

    abbrev others : List Entry
    others = flat_map (other_move_lines telling) outcome.moves

    own_told_at : (move : Move)
        → AllByRecursion (IsToldAt telling move.port) (own_move_lines telling move)
    own_told_at move =
        each_weaker (λ entry. IsToldAt telling move.port entry × (entry.port ≡ port))
        (IsToldAt telling move.port) (λ entry told. told.0) (own_move_lines telling move)
        (own_told telling move)

    other_told_at : (move : Move)
        → AllByRecursion (IsToldAt telling move.port) (other_move_lines telling move)
    other_told_at move =
        each_weaker (λ entry. IsToldAt telling move.port entry × (entry.port ≢ port))
        (IsToldAt telling move.port) (λ entry told. told.0) (other_move_lines telling move)
        (other_told telling move)

    lines_within : (f : Move → List Entry)
        → ((move : Move) → AllByRecursion (IsToldAt telling move.port) (f move))
        → (moves : List Move)
        → AllByRecursion (IsMoved state.durable.heads.ports
        (recorded state.durable outcome.entry).heads.ports) moves
        → AllByRecursion (λ move. AllByRecursion (IsLineOf port state) (f move)) moves
    lines_within f told [] each = tt
    lines_within f told (move ∷ moves) each = (
      each_weaker (IsToldAt telling move.port) (IsLineOf port state)
          (λ entry its. record {
            turn = its.turn;
            maker = its.maker;
            within =
                let on : move.port < length state.durable.heads.ports.on =
                slice_get_within state.durable.heads.ports.on move.port move.leaves each.0.left in
                let places : length state.durable.heads.ports.on
                ≡ state.durable.heads.ports.count = sound.are.heads.ports.rule.count in
                let at : entry.port ≡ move.port = its.at in
                omega (arith, on, places, at);
          }) (f move) (told move),
      lines_within f told moves each.1,
    )

    own_here : AllByRecursion (λ entry. entry.port ≡ port) own
    own_here =
        each_given (λ entry. entry.port ≡ port) (own_move_lines telling) outcome.moves
        (by outcome.moves)
      where
        by : (moves : List Move) → AllByRecursion
            (λ move. AllByRecursion (λ entry. entry.port ≡ port) (own_move_lines telling move))
            moves
        by [] = tt
        by (move ∷ moves) = (
          each_weaker (λ entry. IsToldAt telling move.port entry × (entry.port ≡ port))
              (λ entry. entry.port ≡ port) (λ entry its. its.1) (own_move_lines telling move)
              (own_told telling move),
          by moves,
        )

    others_away : AllByRecursion (λ entry. entry.port ≢ port) others
    others_away =
        each_given (λ entry. entry.port ≢ port) (other_move_lines telling) outcome.moves
        (by outcome.moves)
      where
        by : (moves : List Move) → AllByRecursion
            (λ move. AllByRecursion (λ entry. entry.port ≢ port) (other_move_lines telling move))
            moves
        by [] = tt
        by (move ∷ moves) = (
          each_weaker (λ entry. IsToldAt telling move.port entry × (entry.port ≢ port))
              (λ entry. entry.port ≢ port) (λ entry its. its.1) (other_move_lines telling move)
              (other_told telling move),
          by moves,
        )

    abbrev ToldAway : Move → Entry → Type 0
    ToldAway move entry = IsToldAt telling move.port entry × (entry.port ≢ port)

    others_order : EachTwo (AtMost (own_first port)) others
    others_order =
        each_two_given (AtMost (own_first port)) (λ one other. one.port < other.port) ToldAway
        (other_move_lines telling)
        (λ one other y z less told its.
        let at : y.port ≡ one.port = told.0.at in
        let there : z.port ≡ other.port = its.0.at in
        others_by_port port y z told.1 its.1 (omega (arith, less, at, there)))
        outcome.moves carried.order (each outcome.moves) (two outcome.moves)
      where
        each : (moves : List Move)
            → AllByRecursion
            (λ move. AllByRecursion (ToldAway move) (other_move_lines telling move))
            moves
        each [] = tt
        each (move ∷ moves) = (other_told telling move, each moves)

        -- the lines about one move
        two : (moves : List Move)
            → AllByRecursion (λ move. EachTwo (AtMost (own_first port))
            (other_move_lines telling move)) moves
        two [] = tt
        two (move ∷ moves) = (
          same_port (other_move_lines telling move) move.port
              (each_weaker (ToldAway move) (λ entry. (entry.port ≡ move.port) × (entry.port ≢ port))
              (λ entry its. (its.0.at, its.1)) (other_move_lines telling move)
              (other_told telling move)),
          two moves,
        )
          where
            same_port : (entries : List Entry) (at : ℕ)
                → AllByRecursion (λ entry. (entry.port ≡ at) × (entry.port ≢ port)) entries
                → EachTwo (AtMost (own_first port)) entries
            same_port [] at its = tt
            same_port (entry ∷ entries) at its = (
              each_weaker (λ other. (other.port ≡ at) × (other.port ≢ port))
                  (AtMost (own_first port) entry)
                  (λ other is. away_alike port entry other its.0.1 is.1 (its.0.0 ∙ sym is.0))
                  entries
                  its.1,
              same_port entries at its.1,
            )

    isdr_statement : IsStatementMade port state (isdr_made state port c)
    isdr_statement = record {
      lines = (
        own_line _ refl,
        each_joined (IsLineOf port state) own others
            (each_given (IsLineOf port state) (own_move_lines telling) outcome.moves
            (lines_within (own_move_lines telling) own_told_at outcome.moves carried.moves.each))
            (each_given (IsLineOf port state) (other_move_lines telling) outcome.moves
            (lines_within (other_move_lines telling) other_told_at outcome.moves
            carried.moves.each)),
      );
      order = own_then port (answer ∷ own) others (refl, own_here) others_away others_order;
      counts = λ place.
          each_alike change (λ at its. moved_alike (kept_on port c.channel at)
          (move_at outcome.moves at) its) 0 (slice_set state.ports port put) place
          ∙ put_counts state.ports port put is_place refl place;
      shared = count_either (is_shared_command c);
      tells = (
        answer,
        ap (λ (its : List Entry). answer ∷ its)
            (filter-append (λ (entry : Entry). tells_statement entry.line) own others
            ∙ ap (λ (its : List Entry). its ++ telling_lines others)
            (own_quiet telling outcome.moves)
            ∙ others_quiet telling outcome.moves),
      );
    }

  command_statement : (c : Apdu) → IsStatementMade port state (command_made state port c)
  command_statement c = by (is_common (port_in state port).session c) (nat_eq c.ins 0x7A)
    where
      by : (common is_lsi : Bool) → IsStatementMade port state (cond common
          (cond is_lsi (lsi_made state port c) (isdr_made state port c)) (own_made state port c))
      by true true =
          lsi_statement (lsi_of c state.durable.heads.ports.count)
          (lsi_below c state.durable.heads.ports.count)
      by true false = isdr_statement c
      by false is_lsi = own_statement c

  bytes_statement : (bytes : List ℕ) (made : Made) → AnswersBytes state port bytes made
      → IsStatementMade port state made
  bytes_statement bytes made (inl spelled) =
      subst (IsStatementMade port state) (sym spelled.2) (command_statement spelled.0)
  bytes_statement bytes made (inr none) =
      subst (IsStatementMade port state) (sym none.1)
      (put_statement _ _ state.shared _ _ refl (inl refl) refl)

  step_statement : (step : LoadStep) (made : Made) → MakesLoadStep state port step made
      → IsStatementMade port state made
  step_statement (steps.Begin metadata) made is =
      subst (IsStatementMade port state) (sym is)
      (put_statement _ _ state.shared _ _ refl (inl refl) refl)
  step_statement (steps.Piece piece) made is =
      subst (IsStatementMade port state) (sym is)
      (put_statement _ _ state.shared _ _ refl (inl refl) refl)
  step_statement steps.End made ends =
      subst (IsStatementMade port state) (sym ends.2)
      (put_statement _ _ (state.shared + 1) _ _ refl (inr refl) refl)

  failed_step_statement : (step : LoadStep) (made : Made) → FailsLoadWith state port step made
      → IsStatementMade port state made
  failed_step_statement (steps.Begin metadata) made is =
      subst (IsStatementMade port state) (sym is)
      (put_statement _ _ state.shared _ _ refl (inl refl) refl)
  failed_step_statement (steps.Piece piece) made is =
      subst (IsStatementMade port state) (sym is)
      (put_statement _ _ state.shared _ _ refl (inl refl) refl)
  failed_step_statement steps.End made ends =
      subst (IsStatementMade port state) (sym ends.1)
      (put_statement _ _ (state.shared + 1) _ _ refl (inr refl) refl)

-- any statement counts once at its port, and its lines are its own, in order
pub statement_made : (state : WorldState) → IsSoundState state → (failed : Bool) (event : Event)
    (made : Made) → ComesToPort event → IsOnCard state.durable.heads.ports.count event
    → Happens failed state event made → IsStatementMade (its_port event) state made
statement_made state sound false (events.Apdu port bytes) made comes on is =
    bytes_statement state sound port on bytes made is
statement_made state sound false (events.Reset port) made comes on is =
    subst (IsStatementMade port state) (sym is)
    (put_statement state sound port on _ _ state.shared _ _ refl (inl refl) refl)
statement_made state sound false (events.Load port step) made comes on is =
    step_statement state sound port on step made is
statement_made state sound failed events.Power made comes on is = absurd comes
statement_made state sound true (events.Apdu port bytes) made comes on is =
    subst (IsStatementMade port state) (sym is.3)
    (put_statement state sound port on _ _ _ state.commits _ refl
    (count_either state sound port on _) refl)
statement_made state sound true (events.Reset port) made comes on is = absurd is
statement_made state sound true (events.Load port step) made comes on is =
    failed_step_statement state sound port on step made is
