-- STORE DATA and GET RESPONSE on a channel where the ISD-R is selected.
use Rattle.std.specs.Prelude.{ℕ, ◌+◌, ◌==◌, Bool, true, false, if◌then◌else◌, List, []}
use Rattle.std.specs.Prelude.{◌∷◌, ◌++◌, find, map, slice_index_or, slice_set, Option, Some, None}
use Rattle.std.specs.Prelude.{is_some}
use Rattle.std.specs.List.{flat_map}
use Rattle.apdu_codec.specs.Command.{Apdu}
use Rattle.isdr_commands.specs.declared.moves.Move.{Move}
use Rattle.uicc_channels.specs.Session.{fresh_session}
use Rattle.uicc_channels.specs.declared.session.Refresh.{Refresh}
use Rattle.uicc_channels.specs.declared.session.Refresh.TheVariants.{Announced, Fetched, Quiet}
use Rattle.card_core.specs.Desk.{desk_outcome, desk_with, empty_desk}
use Rattle.card_core.specs.DeskOutcome.{DeskOutcome}
use Rattle.card_core.specs.PortState.{PortState, counted, fresh_port}
use Rattle.card_core.specs.Recorded.{recorded}
use Rattle.card_core.specs.World.{Made, WorldState, answered_line, count_if, next_maker}
use Rattle.card_core.specs.World.{port_in}
use Rattle.card_core.specs.declared.desk.Desk.{Desk}
use Rattle.card_core.specs.declared.entry.Entry.{Entry}
use Rattle.card_core.specs.declared.entry.Line.{Line}
use Rattle.card_core.specs.declared.entry.Line.TheVariants.{Bound, Unbound}
use Rattle.card_core.specs.declared.telling.Telling.{Telling}

abbrev pub is_under_way : Refresh → Bool
is_under_way Quiet = false
is_under_way Announced = true
is_under_way Fetched = true

-- whether there is a port of that number whose REFRESH isn't over
abbrev pub busy_at : List PortState → ℕ → Bool
busy_at ports number = is_under_way (slice_index_or ports number fresh_port).session.refresh

-- the same of each of the eight ports that a card may have
abbrev pub busy_of : List PortState → List Bool
busy_of ports = map (busy_at ports) (0 ∷ 1 ∷ 2 ∷ 3 ∷ 4 ∷ 5 ∷ 6 ∷ 7 ∷ [])

-- the move at a port, where it moves
abbrev pub move_at : List Move → ℕ → Option Move
move_at moves port = find (λ move. move.port == port) moves

-- the channel of the request stays open on its own port, with the ISD-R selected
abbrev pub kept_on : ℕ → ℕ → ℕ → Option ℕ
kept_on came channel port = if port == came then Some channel else None

-- nothing is under way any more at a port that moves, but on the kept channel, as the request left
-- it
abbrev pub desk_moved : Option ℕ → Desk → Desk
desk_moved None desk = empty_desk
desk_moved (Some channel) desk = desk

-- a port that moves has a fresh session, which announces a REFRESH where that is asked for
abbrev pub port_moved : Option ℕ → Option Move → PortState → PortState
port_moved kept None port = port
port_moved kept (Some move) port = record port {
  session = fresh_session move.refresh kept;
  desk = desk_moved kept port.desk;
}

-- the port on which a command came: its desk, and one more statement
abbrev pub came_at : ℕ → ℕ → DeskOutcome → PortState → PortState
came_at came channel outcome port = record (counted port) {
  desk = desk_with port.desk came channel outcome.moves outcome.exchange;
}

-- a change of each item, by its place, counted from a number
abbrev pub at_each : {X : Type 0} → (ℕ → X → X) → ℕ → List X → List X
at_each change number [] = []
at_each change number (item ∷ items) =
    change number item ∷ at_each change (number + 1) items

-- the ports after a request that came on a port and channel
abbrev pub ports_moved : ℕ → ℕ → List Move → List PortState → List PortState
ports_moved came channel moves ports = at_each
    (λ number. port_moved (kept_on came channel number) (move_at moves number)) 0 ports

abbrev pub line_told : Telling → ℕ → Line → Entry
line_told telling port line = record { turn = telling.turn; port = port; line = line }

abbrev pub kept_told : Telling → ℕ → Option ℕ
kept_told telling port = kept_on telling.by.port telling.channel port

abbrev pub unbound_line : Telling → Move → Option ℕ → List Entry
unbound_line telling move None = []
unbound_line telling move (Some profile) = line_told telling move.port
    (Unbound profile move.refresh (kept_told telling move.port) telling.by telling.commit) ∷ []

abbrev pub bound_line : Telling → Move → Option ℕ → List Entry
bound_line telling move None = []
bound_line telling move (Some profile) = line_told telling move.port
    (Bound profile move.refresh (kept_told telling move.port) telling.by telling.commit) ∷ []

-- a profile leaves the port before another comes
abbrev pub move_lines : Telling → Move → List Entry
move_lines telling move =
    unbound_line telling move move.leaves ++ bound_line telling move move.comes

abbrev pub own_move_lines : Telling → Move → List Entry
own_move_lines telling move =
    if move.port == telling.by.port then move_lines telling move else []

abbrev pub other_move_lines : Telling → Move → List Entry
other_move_lines telling move =
    if move.port == telling.by.port then [] else move_lines telling move

-- the lines about the own port stand directly behind that of the statement, and then come those of
-- the other ports, from the lowest on
abbrev pub moves_lines : Telling → List Move → List Entry
moves_lines telling moves =
    flat_map (own_move_lines telling) moves ++ flat_map (other_move_lines telling) moves

-- STORE DATA is a shared statement, also where it is refused
abbrev pub is_shared_command : Apdu → Bool
is_shared_command c = c.ins == 0xE2

abbrev pub telling_of : WorldState → ℕ → ℕ → Telling
telling_of state came channel = record {
  turn = state.shared;
  by = next_maker state came;
  channel = channel;
  commit = state.commits + 1;
}

abbrev pub isdr_carried : WorldState → ℕ → Apdu → DeskOutcome → Made
isdr_carried state came c outcome = record {
  state = record {
    durable = recorded state.durable outcome.entry;
    ports = ports_moved came c.channel outcome.moves (slice_set state.ports came
        (came_at came c.channel outcome (port_in state came)));
    shared = state.shared + count_if (is_shared_command c);
    commits = state.commits + count_if (is_some outcome.entry);
  };
  entries = answered_line state came outcome.answer
      ∷ moves_lines (telling_of state came c.channel) outcome.moves;
}

abbrev pub isdr_made : WorldState → ℕ → Apdu → Made
isdr_made state came c = isdr_carried state came c
    (desk_outcome (port_in state came).desk state.durable.heads (busy_of state.ports) came c)
