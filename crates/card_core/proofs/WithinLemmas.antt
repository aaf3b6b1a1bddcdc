-- What a card counts stays within the number of its events, and its loads within the bytes that came.
use Rattle.std.proofs.Common.{◌≡◌, ◌≤◌, ◌<◌, ◌+◌, ◌^◌, ℕ, zero, suc, Bool, true, false, cond}
use Rattle.std.proofs.Common.{nat_eq, List}
use Rattle.std.proofs.Common.{[], ◌∷◌, ◌++◌, length, replicate, Option, Some, None, Result, Ok, Err}
use Rattle.std.proofs.Common.{refl}
use Rattle.std.proofs.Common.{sym, subst, ap, ◌∙◌, arith, length-append, length-set, inl, inr}
use Rattle.std.specs.List.{AllByRecursion}
use Rattle.std.specs.Prelude.{IfSome, is_some, option_map, slice_index_or, slice_set}
use Rattle.apdu_codec.specs.Command.{Apdu}
use Rattle.apdu_codec.specs.declared.status.Sw.{Sw}
use Rattle.isdr_codec.specs.declared.metadata.MetaFault.{MetaFault}
use Rattle.isdr_commands.specs.declared.moves.Move.{Move}
use Rattle.lsi_refresh.specs.Lsi.{lsi_of}
use Rattle.lsi_refresh.specs.declared.lsi.Lsi.{Lsi}
use Rattle.lsi_refresh.specs.declared.lsi.Lsi.TheVariants as lsi
use Rattle.profile_card.specs.Commands.{decision}
use Rattle.profile_card.specs.Own.{is_common}
use Rattle.record_codec.specs.declared.durable.Durable.{Durable}
use Rattle.record_codec.specs.declared.profile.ProfileHead.{ProfileHead}
use Rattle.isdr_codec.specs.Metadata.{metadata_of}
use Rattle.card_core.specs.Desk.{desk_outcome}
use Rattle.card_core.specs.DeskOutcome.{DeskOutcome}
use Rattle.card_core.specs.IsdrCommand.{at_each, busy_of, came_at, is_shared_command, isdr_made}
use Rattle.card_core.specs.IsdrCommand.{kept_on, move_at, port_moved}
use Rattle.card_core.specs.Load.{HasRoomForPiece, load_begun, piece_taken}
use Rattle.card_core.specs.LoadState.{LoadState}
use Rattle.card_core.specs.ManageLsi.{counted_at, lsi_asked_for, lsi_made}
use Rattle.card_core.specs.OwnCommand.{own_made}
use Rattle.card_core.specs.PortState.{PortState, counted, fresh_port, reset_port}
use Rattle.card_core.specs.Run.{IsOnCard, package_bytes, piece_bytes}
use Rattle.card_core.specs.Statements.{AnswersBytes, Makes, MakesLoadStep, command_made}
use Rattle.card_core.specs.Whole.{IsReadyFor, IsReadyForStep, MayGoOn}
use Rattle.card_core.specs.World.{Made, WorldState, card_in, count_if, opened, port_in}
use Rattle.card_core.specs.declared.event.Event.{Event}
use Rattle.card_core.specs.declared.event.Event.TheVariants as events
use Rattle.card_core.specs.declared.event.LoadStep.{LoadStep}
use Rattle.card_core.specs.declared.event.LoadStep.TheVariants as steps

-- no more statements came to a port, and no more bytes to its load
pub record IsWithin (count bytes : ℕ) (port : PortState) : Type 0 where
  pub statements : port.statements ≤ count
  pub received : IfSome port.load (λ load. IfSome load.received (λ its. length its ≤ bytes))

-- no more of anything than events came to a card with so many ports
pub record AreWithin (ports count bytes : ℕ) (state : WorldState) : Type 0 where
  pub places : length state.ports ≡ ports
  pub each : AllByRecursion (IsWithin count bytes) state.ports
  pub shared : state.shared ≤ count
  pub commits : state.commits ≤ count

fresh_within : (count bytes : ℕ) → IsWithin count bytes fresh_port
fresh_within count bytes = record { statements = omega arith; received = tt }

all_fresh : (count bytes places : ℕ)
    → AllByRecursion (IsWithin count bytes) (replicate places fresh_port)
all_fresh count bytes zero = tt
all_fresh count bytes (suc places) = (fresh_within count bytes, all_fresh count bytes places)

pub length_fresh : (places : ℕ) (port : PortState) → length (replicate places port) ≡ places
length_fresh zero port = refl
length_fresh (suc places) port = ap suc (length_fresh places port)

at_within : (count bytes : ℕ) (ports : List PortState) (number : ℕ)
    → AllByRecursion (IsWithin count bytes) ports
    → IsWithin count bytes (slice_index_or ports number fresh_port)
at_within count bytes [] number each = fresh_within count bytes
at_within count bytes (port ∷ ports) zero each = each.0
at_within count bytes (port ∷ ports) (suc number) each =
    at_within count bytes ports number each.1

set_within : (count bytes : ℕ) (ports : List PortState) (number : ℕ) (put : PortState)
    → AllByRecursion (IsWithin count bytes) ports → IsWithin count bytes put
    → AllByRecursion (IsWithin count bytes) (slice_set ports number put)
set_within count bytes [] number put each its = tt
set_within count bytes (port ∷ ports) zero put each its = (its, each.1)
set_within count bytes (port ∷ ports) (suc number) put each its =
    (each.0, set_within count bytes ports number put each.1 its)

each_within : (count bytes : ℕ) (change : ℕ → PortState → PortState) (number : ℕ)
    (ports : List PortState)
    → ((place : ℕ) (port : PortState) → IsWithin count bytes port
    → IsWithin count bytes (change place port))
    → AllByRecursion (IsWithin count bytes) ports
    → AllByRecursion (IsWithin count bytes) (at_each change number ports)
each_within count bytes change number [] stays each = tt
each_within count bytes change number (port ∷ ports) stays each = (
  stays number port each.0,
  each_within count bytes change (number + 1) ports stays each.1,
)

pub length_each : (change : ℕ → PortState → PortState) (number : ℕ) (ports : List PortState)
    → length (at_each change number ports) ≡ length ports
length_each change number [] = refl
length_each change number (port ∷ ports) = ap suc (length_each change (number + 1) ports)

more_received : (bytes more : ℕ) → bytes ≤ more → (load : Option LoadState)
    → IfSome load (λ its. IfSome its.received (λ all. length all ≤ bytes))
    → IfSome load (λ its. IfSome its.received (λ all. length all ≤ more))
more_received bytes more le None received = tt
more_received bytes more le (Some load) received = by load.received received
  where
    by : (all : Option (List ℕ)) → IfSome all (λ its. length its ≤ bytes)
        → IfSome all (λ its. length its ≤ more)
    by None few = tt
    by (Some its) few = let less : length its ≤ bytes = few in omega (arith, le, less)

more_within : (count bytes more : ℕ) (port : PortState) → bytes ≤ more
    → IsWithin count bytes port → IsWithin (count + 1) more port
more_within count bytes more port le its = record {
  statements = let less : port.statements ≤ count = its.statements in omega (arith, less);
  received = more_received bytes more le port.load its.received;
}

all_more : (count bytes more : ℕ) (ports : List PortState) → bytes ≤ more
    → AllByRecursion (IsWithin count bytes) ports
    → AllByRecursion (IsWithin (count + 1) more) ports
all_more count bytes more [] le each = tt
all_more count bytes more (port ∷ ports) le each =
    (more_within count bytes more port le each.0, all_more count bytes more ports le each.1)

-- one more statement, whatever becomes of session and desk
counted_within : (count bytes : ℕ) (port : PortState) → IsWithin count bytes port
    → IsWithin (count + 1) bytes (counted port)
counted_within count bytes port its = record {
  statements = let less : port.statements ≤ count = its.statements in omega (arith, less);
  received = its.received;
}

count_if-few : (b : Bool) (count commits : ℕ) → commits ≤ count
    → commits + count_if b ≤ count + 1
count_if-few true count commits le = omega (arith, le)
count_if-few false count commits le = omega (arith, le)

module _ (ports count bytes : ℕ) (state : WorldState) (within : AreWithin ports count bytes state) where
  at_port : (port : ℕ) → IsWithin count bytes (port_in state port)
  at_port port = at_within count bytes state.ports port within.each

  one_more : AllByRecursion (IsWithin (count + 1) bytes) state.ports
  one_more = all_more count bytes bytes state.ports (omega arith) within.each

  counted_at_port : (port : ℕ) → IsWithin (count + 1) bytes (counted (port_in state port))
  counted_at_port port = counted_within count bytes (port_in state port) (at_port port)

  -- a port that is as it was but for its session and desk
  put_counted : (port : ℕ) (put : PortState)
      → put.statements ≡ (port_in state port).statements + 1
      → put.load ≡ (port_in state port).load
      → AllByRecursion (IsWithin (count + 1) bytes) (slice_set state.ports port put)
  put_counted port put statements load =
      set_within (count + 1) bytes state.ports port put one_more (record {
        statements = let less : (port_in state port).statements ≤ count =
            (at_port port).statements in omega (arith, statements, less);
        received = subst (λ (its : Option LoadState). IfSome its
            (λ load. IfSome load.received (λ all. length all ≤ bytes))) (sym load)
            (at_port port).received;
      })

  shared_stays : state.shared ≤ count + 1
  shared_stays = let le : state.shared ≤ count = within.shared in omega (arith, le)

  shared_more : state.shared + 1 ≤ count + 1
  shared_more = let le : state.shared ≤ count = within.shared in omega (arith, le)

  commits_stay : state.commits ≤ count + 1
  commits_stay = let le : state.commits ≤ count = within.commits in omega (arith, le)

  abbrev Goes : Made → Type 0
  Goes made = AreWithin ports (count + 1) bytes made.state

  own_within : (port : ℕ) (c : Apdu) → Goes (own_made state port c)
  own_within port c = record {
    places = length-set state.ports port _ ∙ within.places;
    each = put_counted port _ refl refl;
    shared = shared_stays;
    commits = count_if-few (is_some (decision (card_in state port) c).change) count
        state.commits within.commits;
  }

  -- a statement that changes its own port alone
  put_within : (port : ℕ) (put : PortState)
      → put.statements ≡ (port_in state port).statements + 1
      → put.load ≡ (port_in state port).load
      → AreWithin ports (count + 1) bytes (record state {
        ports = slice_set state.ports port put;
      })
  put_within port put statements load = record {
    places = length-set state.ports port put ∙ within.places;
    each = put_counted port put statements load;
    shared = shared_stays;
    commits = commits_stay;
  }

  lsi_within : (port : ℕ) (asked : Result Lsi Sw) → Goes (lsi_asked_for state port asked)
  lsi_within port (Ok lsi.Count) = put_within port _ refl refl
  lsi_within port (Err sw) = put_within port _ refl refl
  lsi_within port (Ok (lsi.Reset other)) =
      let before : AllByRecursion (IsWithin (count + 1) bytes) (counted_at state port).ports =
      put_counted port _ refl refl in
      let there : IsWithin (count + 1) bytes (port_in (counted_at state port) other) =
      at_within (count + 1) bytes (counted_at state port).ports other before in
      record {
        places = length-set (counted_at state port).ports other _
            ∙ length-set state.ports port _ ∙ within.places;
        each = set_within (count + 1) bytes (counted_at state port).ports other
            (reset_port None (port_in (counted_at state port) other)) before
            (record { statements = there.statements; received = there.received });
        shared = shared_more;
        commits = commits_stay;
      }

  moved_within : (kept : Option ℕ) (move : Option Move) (port : PortState)
      → IsWithin (count + 1) bytes port → IsWithin (count + 1) bytes (port_moved kept move port)
  moved_within kept None port its = its
  moved_within kept (Some move) port its =
      record { statements = its.statements; received = its.received }

  isdr_within : (port : ℕ) (c : Apdu) → Goes (isdr_made state port c)
  isdr_within port c =
      let outcome : DeskOutcome = desk_outcome (port_in state port).desk state.durable.heads
      (busy_of state.ports) port c in
      let put : PortState = came_at port c.channel outcome (port_in state port) in
      record {
        places = length_each _ 0 (slice_set state.ports port put)
            ∙ length-set state.ports port put ∙ within.places;
        each = each_within (count + 1) bytes _ 0 (slice_set state.ports port put)
            (λ place its stays. moved_within (kept_on port c.channel place)
            (move_at outcome.moves place) its stays)
            (put_counted port put refl refl);
        shared = count_if-few (is_shared_command c) count state.shared within.shared;
        commits = count_if-few (is_some outcome.entry) count state.commits within.commits;
      }

  command_within : (port : ℕ) (c : Apdu) → Goes (command_made state port c)
  command_within port c = by (is_common (port_in state port).session c) (nat_eq c.ins 0x7A)
    where
      by : (common is_lsi : Bool) → Goes (cond common
          (cond is_lsi (lsi_made state port c) (isdr_made state port c)) (own_made state port c))
      by true true = lsi_within port (lsi_of c state.durable.heads.ports.count)
      by true false = isdr_within port c
      by false is_lsi = own_within port c

  bytes_within : (port : ℕ) (bytes : List ℕ) (made : Made) → AnswersBytes state port bytes made
      → Goes made
  bytes_within port bytes made (inl spelled) =
      subst Goes (sym spelled.2) (command_within port spelled.0)
  bytes_within port bytes made (inr none) = subst Goes (sym none.1) (put_within port _ refl refl)

  -- a step of a load, with what may then have come
  step_within : (more port : ℕ) (load : Option LoadState) → bytes ≤ more
      → IfSome load (λ its. IfSome its.received (λ all. length all ≤ more))
      → AreWithin ports (count + 1) more (record state {
        ports = slice_set state.ports port
            (record (counted (port_in state port)) { load = load });
      })
  step_within more port load le received = record {
    places = length-set state.ports port _ ∙ within.places;
    each = set_within (count + 1) more state.ports port _
        (all_more count bytes more state.ports le within.each) (record {
          statements = let less : (port_in state port).statements ≤ count =
              (at_port port).statements in omega (arith, less);
          received = received;
        });
    shared = shared_stays;
    commits = commits_stay;
  }

  begun_few : (port : ℕ) (read : Result ProfileHead MetaFault)
      → IfSome (load_begun (port_in state port).load read).load
      (λ its. IfSome its.received (λ all. length all ≤ bytes))
  begun_few port (Err fault) = (at_port port).received
  begun_few port (Ok head) = omega arith

  taken_few : (piece : List ℕ) (load : Option LoadState)
      → IfSome load (λ its. IfSome its.received (λ all. length all ≤ bytes))
      → IfSome (piece_taken load piece).load
      (λ its. IfSome its.received (λ all. length all ≤ bytes + length piece))
  taken_few piece None few = tt
  taken_few piece (Some load) few = by load.received few
    where
      by : (all : Option (List ℕ)) → IfSome all (λ its. length its ≤ bytes)
          → IfSome (option_map (λ its. its ++ piece) all)
          (λ its. length its ≤ bytes + length piece)
      by None few = tt
      by (Some its) few =
          let less : length its ≤ bytes = few in
          let sum : length (its ++ piece) ≡ length its + length piece = length-append its piece in
          omega (arith, less, sum)

  load_within : (port : ℕ) (step : LoadStep) (made : Made) → MakesLoadStep state port step made
      → AreWithin ports (count + 1) (bytes + piece_bytes step) made.state
  load_within port (steps.Begin metadata) made is =
      subst (λ (its : Made). AreWithin ports (count + 1) (bytes + 0) its.state) (sym is)
      (subst (λ (n : ℕ). AreWithin ports (count + 1) n (record state {
        ports = slice_set state.ports port (record (counted (port_in state port)) {
          load = (load_begun (port_in state port).load (metadata_of metadata)).load;
        });
      })) (omega arith)
      (step_within bytes port _ (omega arith) (begun_few port (metadata_of metadata))))
  load_within port (steps.Piece piece) made is =
      subst (λ (its : Made). AreWithin ports (count + 1) (bytes + length piece) its.state) (sym is)
      (step_within (bytes + length piece) port _ (omega arith)
      (taken_few piece (port_in state port).load (at_port port).received))
  load_within port steps.End made ends =
      let put = step_within (bytes + 0) port None (omega arith) tt in
      subst (λ (its : Made). AreWithin ports (count + 1) (bytes + 0) its.state) (sym ends.2)
      (record {
        places = put.places;
        each = put.each;
        shared = shared_more;
        commits = count_if-few ends.0.recorded count state.commits within.commits;
      })

  no_bytes : (event : ℕ) (made : Made) → event ≡ 0 → Goes made
      → AreWithin ports (count + 1) (bytes + event) made.state
  no_bytes event made none goes =
      subst (λ (n : ℕ). AreWithin ports (count + 1) n made.state)
      (let same : bytes ≡ bytes + event = omega (arith, none) in same) goes

  pub Within-makes : (event : Event) (made : Made)
      → length state.ports ≡ state.durable.heads.ports.count → Makes state event made
      → AreWithin ports (count + 1) (bytes + package_bytes event) made.state
  Within-makes (events.Apdu port its) made whole makes =
      no_bytes 0 made refl (bytes_within port its made makes)
  Within-makes (events.Reset port) made whole makes =
      no_bytes 0 made refl (subst Goes (sym makes) (put_within port _ refl refl))
  Within-makes (events.Load port step) made whole makes = load_within port step made makes
  Within-makes events.Power made whole makes =
      no_bytes 0 made refl (subst Goes (sym makes) (record {
        places = length_fresh state.durable.heads.ports.count fresh_port ∙ sym whole
            ∙ within.places;
        each = all_fresh (count + 1) bytes state.durable.heads.ports.count;
        shared = omega arith;
        commits = omega arith;
      }))

  may_go_on : (port : ℕ) → length state.ports ≡ state.durable.heads.ports.count
      → port < ports → count + 1 < 2 ^ 32 → MayGoOn state port
  may_go_on port whole here few = record {
    here = subst (λ (n : ℕ). port < n) (sym within.places ∙ whole) here;
    statements = let le : (port_in state port).statements ≤ count = (at_port port).statements in
        omega (arith, le, few);
    shared = let le : state.shared ≤ count = within.shared in omega (arith, le, few);
    commits = let le : state.commits ≤ count = within.commits in omega (arith, le, few);
  }

  has_room : (piece : List ℕ) (load : Option LoadState)
      → IfSome load (λ its. IfSome its.received (λ all. length all ≤ bytes))
      → bytes + length piece < 2 ^ 32 → HasRoomForPiece load piece
  has_room piece None few room = λ its is. absurd cc
  has_room piece (Some load) few room =
      λ its is all there.
      let same : load ≡ its = cc in
      let found : load.received ≡ Some all =
      ap (λ (one : LoadState). one.received) same ∙ there in
      let less : length all ≤ bytes =
      subst (λ (o : Option (List ℕ)). IfSome o (λ xs. length xs ≤ bytes)) found few in
      omega (arith, less, room)

  step_ready : (port : ℕ) (step : LoadStep) → MayGoOn state port
      → bytes + piece_bytes step < 2 ^ 32 → IsReadyForStep state port step
  step_ready port (steps.Begin metadata) may room = may
  step_ready port (steps.Piece piece) may room =
      (may, has_room piece (port_in state port).load (at_port port).received room)
  step_ready port steps.End may room = may

  pub Within-ready : (event : Event) → length state.ports ≡ state.durable.heads.ports.count
      → IsOnCard ports event → count + 1 < 2 ^ 32 → bytes + package_bytes event < 2 ^ 32
      → IsReadyFor state event
  Within-ready (events.Apdu port its) whole on few room = may_go_on port whole on few
  Within-ready (events.Reset port) whole on few room = may_go_on port whole on few
  Within-ready (events.Load port step) whole on few room =
      step_ready port step (may_go_on port whole on few) room
  Within-ready events.Power whole on few room = tt

-- a card that was just opened has counted nothing
pub Within-opened : (durable : Durable)
    → AreWithin durable.heads.ports.count 0 0 (opened durable)
Within-opened durable = record {
  places = length_fresh durable.heads.ports.count fresh_port;
  each = all_fresh 0 0 durable.heads.ports.count;
  shared = omega arith;
  commits = omega arith;
}
