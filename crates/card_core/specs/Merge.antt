-- The logs of the ports in one order: that of the phases, and in a phase that of the shared
-- statements.
use Rattle.std.specs.Prelude.{ℕ, ◌≡◌, ◌+◌, ◌-◌, ◌==◌, ◌&&◌, nat_le, nat_lt, Bool, if◌then◌else◌, ⊤}
use Rattle.std.specs.Prelude.{true, false, List, [], ◌∷◌, ◌++◌, filter, length, map, slice_index_or}
use Rattle.std.specs.List.{AllByRecursion, flat_map, list_any, range_with_len}
use Rattle.card_core.specs.Fed.{IsToldAlone}
use Rattle.card_core.specs.Share.{AreShares, Share}
use Rattle.card_core.specs.Stepped.{AreSteps, NotFailed, Stepped}
use Rattle.card_core.specs.Stretch.{entries_of, is_for, lines_at, steps_at, which_failed}
use Rattle.card_core.specs.Told.{Told, told_of}
use Rattle.card_core.specs.World.{WorldState, next_maker}
use Rattle.card_core.specs.declared.entry.Entry.{Entry}
use Rattle.card_core.specs.declared.entry.Line.{Line}
use Rattle.card_core.specs.declared.entry.Line.TheVariants.{Answered, Bound, ForeignReset, Loaded}
use Rattle.card_core.specs.declared.entry.Line.TheVariants.{OwnReset, Unbound}
use Rattle.card_core.specs.declared.entry.Maker.{Maker}
use Rattle.card_core.specs.declared.event.Event.{Event}
use Rattle.card_core.specs.declared.event.Event.TheVariants.{Apdu as Bytes, Load, Power, Reset}

-- the logs of the ports from 0 on, and which statements were shared, one after another
pub record Lanes : Type 0 where
  pub logs : List (List Entry)
  pub shared : List Maker

-- the statement that made a line about a port
abbrev pub maker_at : ℕ → Line → Maker
maker_at port (Answered number answer cause) = record { port = port; number = number }
maker_at port (OwnReset number) = record { port = port; number = number }
maker_at port (Loaded number outcome) = record { port = port; number = number }
maker_at port (ForeignReset maker) = maker
maker_at port (Unbound profile refresh kept maker commit) = maker
maker_at port (Bound profile refresh kept maker commit) = maker

abbrev pub maker_of : Entry → Maker
maker_of entry = maker_at entry.port entry.line

-- the phase, from 0, in which the statement of this number comes to a port
abbrev pub phase_at : List (List Event) → ℕ → ℕ → ℕ
phase_at [] port number = 0
phase_at (phase ∷ phases) port number =
    let here = length (filter (is_for port) phase) in
    if nat_le number here then 0 else 1 + phase_at phases port (number - here)

abbrev pub line_phase : List (List Event) → Entry → ℕ
line_phase phases entry = phase_at phases (maker_of entry).port (maker_of entry).number

abbrev pub is_made_by_one_of : List Maker → Maker → Bool
is_made_by_one_of makers maker =
    list_any (λ its. (its.port == maker.port) && (its.number == maker.number)) makers

-- where in its turn a line stands: 0 of no shared statement, 1 of the shared one at that one's own
-- port, 2 of it at another
abbrev pub place_in_turn : List Maker → Entry → ℕ
place_in_turn shared entry =
    if is_made_by_one_of shared (maker_of entry)
    then (if (maker_of entry).port == entry.port then 1 else 2) else 0

-- the lines of a log that have this phase, this turn and this place in it
abbrev pub lines_of : List (List Event) → List Maker → ℕ → ℕ → ℕ → List Entry → List Entry
lines_of phases shared phase turn place log = filter (λ entry. (line_phase phases entry == phase)
    && (entry.turn == turn) && (place_in_turn shared entry == place)) log

-- all lines, phase by phase and in a phase turn by turn. In a turn the lines of no shared statement
-- come first, port by port and as they stand in its log. Then come the shared statement's: those
-- about its own port, and those about the other ports, from the lowest on.
abbrev pub merge : List (List Event) → Lanes → List Entry
merge phases lanes =
    flat_map (λ phase.
    flat_map (λ turn.
    flat_map (λ place.
    flat_map (lines_of phases lanes.shared phase turn place) lanes.logs)
    (0 ∷ 1 ∷ 2 ∷ [])) (range_with_len 0 (length lanes.shared + 1)))
    (range_with_len 0 (length phases))

-- a line that each statement has once: its answer, its reset, or what its step of a load came to
abbrev pub tells_statement : Line → Bool
tells_statement (Answered number answer cause) = true
tells_statement (OwnReset number) = true
tells_statement (Loaded number outcome) = true
tells_statement (ForeignReset maker) = false
tells_statement (Unbound profile refresh kept maker commit) = false
tells_statement (Bound profile refresh kept maker commit) = false

-- the statement with this number at its port, of the phases one after another
abbrev pub event_numbered : List (List Event) → Maker → Event
event_numbered phases maker = slice_index_or
    (filter (is_for maker.port) (flat_map (λ phase. phase) phases)) (maker.number - 1) Power

-- what came as that statement, and its lines of these
abbrev pub statement_told : List (List Event) → List Entry → Maker → Told
statement_told phases entries maker = record {
  event = event_numbered phases maker;
  entries = filter (λ entry. is_made_by_one_of (maker ∷ []) (maker_of entry)) entries;
}

-- the statements in the order of the merge, each beside its lines
abbrev pub steps_of : List (List Event) → Lanes → List Told
steps_of phases lanes =
    let entries = merge phases lanes in
    map (λ entry. statement_told phases entries (maker_of entry))
    (filter (λ entry. tells_statement entry.line) entries)

-- the statement that an event is
abbrev pub makers_in : WorldState → Event → List Maker
makers_in state (Bytes port bytes) = next_maker state port ∷ []
makers_in state (Reset port) = next_maker state port ∷ []
makers_in state (Load port step) = next_maker state port ∷ []
makers_in state Power = []

-- it counts as shared
abbrev pub was_shared : Stepped → Bool
was_shared step = nat_lt step.before.shared step.made.state.shared

abbrev pub shared_in : Stepped → List Maker
shared_in step = if was_shared step then makers_in step.before step.event else []

-- what a run leaves of a card with so many ports
abbrev pub lanes_of : ℕ → List Stepped → Lanes
lanes_of count steps = record {
  logs = map (λ port. lines_at port (entries_of steps)) (range_with_len 0 count);
  shared = flat_map shared_in steps;
}

-- the answers that the lanes tell of each profile are those of its card alone over what the lanes
-- feed it
abbrev pub LanesAnswerEachAlone :
    List (List Event) → Lanes → WorldState → List Stepped → WorldState → Type 0
LanesAnswerEachAlone phases lanes start steps after =
    (profile : ℕ) → IsToldAlone profile start steps (steps_of phases lanes) after

abbrev pub ComesToPort : Event → Type 0
ComesToPort (Bytes port bytes) = ⊤
ComesToPort (Reset port) = ⊤
ComesToPort (Load port step) = ⊤
ComesToPort Power = ⊥

-- the same statements, each port's in the same order
pub record KeepsEachPort (phase events : List Event) : Type 0 where
  pub statements : AllByRecursion ComesToPort events
  pub ports : (port : ℕ) → filter (is_for port) events ≡ filter (is_for port) phase

-- the statements of the phases, one phase after another
abbrev pub ComeInPhases : List (List Event) → List Event → Type 0
ComeInPhases [] events = events ≡ []
ComeInPhases (phase ∷ phases) events =
    (first : List Event) × (rest : List Event) × (events ≡ first ++ rest)
    × KeepsEachPort phase first × ComeInPhases phases rest

-- a run, and the same statements made in the order of the merge: they come in the same phases and
-- leave the same card; the log is the merge, in which each port has the log that it had; the
-- statements of each port come in the same order, and fail and are told alike; each profile has
-- the same share; what the lanes tell of the statements is what that run tells of them; and what
-- they tell of each profile is what its card alone answers
pub record RunsAsMerged (phases : List (List Event)) (start : WorldState) (steps : List Stepped)
    (after : WorldState) : Type 0 where
  pub events : List Event
  pub merged : List Stepped
  pub phased : ComeInPhases phases events
  pub came : AreSteps start events merged after
  pub log : entries_of merged ≡ merge phases (lanes_of start.durable.heads.ports.count steps)
  pub logs : (port : ℕ) → lines_at port (entries_of merged) ≡ lines_at port (entries_of steps)
  pub ports : (port : ℕ) → map told_of (steps_at port merged) ≡ map told_of (steps_at port steps)
  pub failed : (port : ℕ)
      → which_failed (steps_at port merged) ≡ which_failed (steps_at port steps)
  pub shares : (profile : ℕ) (share : Share) → AreShares profile steps share
      → AreShares profile merged share
  pub told : steps_of phases (lanes_of start.durable.heads.ports.count steps)
      ≡ map told_of merged
  pub alone : LanesAnswerEachAlone phases (lanes_of start.durable.heads.ports.count steps) start
      steps after

-- a run of a card that made these lines, and in whatever phases its events came, the order of the
-- merge
pub record MayBeMerged (start : WorldState) (events : List Event) (entries : List Entry)
    (after : WorldState) : Type 0 where
  pub steps : List Stepped
  pub came : AreSteps start events steps after
  pub made : AllByRecursion NotFailed steps
  pub lines : entries ≡ entries_of steps
  pub merged : (phases : List (List Event)) → ComeInPhases phases events
      → RunsAsMerged phases start steps after
