-- What a statement makes of the port of a lane: just what it makes of the card where that port is.
use Rattle.std.specs.Prelude.{ℕ, ◌≡◌, ◌≤◌, ◌+◌, ◌⊎◌, List, [], ◌∷◌, ◌++◌, length, Option, Some}
use Rattle.std.specs.Prelude.{None}
use Rattle.std.specs.Prelude.{Result, option_map}
use Rattle.std.specs.Result.{result_err}
use Rattle.apdu_codec.specs.Command.{Apdu, Spells}
use Rattle.card_book.specs.Keeper.{CommitsFor}
use Rattle.card_book.specs.declared.entry.HistoryEntry.{HistoryEntry}
use Rattle.card_book.specs.declared.fault.BookFault.{BookFault}
use Rattle.card_book.specs.declared.receipt.Receipt.{Receipt}
use Rattle.card_core.specs.Failed.{failed_command, failed_end, failed_piece}
use Rattle.card_core.specs.Sound.{IsSoundState}
use Rattle.card_core.specs.Statements.{Makes}
use Rattle.card_core.specs.World.{Made, WorldState}
use Rattle.card_core.specs.declared.event.Event.{Event}
use Rattle.card_core.specs.declared.event.Event.TheVariants.{Apdu as Bytes, Load, Power, Reset}
use Rattle.card_core.specs.declared.event.LoadStep.{LoadStep}
use Rattle.card_core.specs.declared.event.LoadStep.TheVariants.{Begin, End, Piece}
use Rattle.port_lanes.specs.LanePort.{HasItsSession, IsPortOf}
use Rattle.port_lanes.specs.Unstored.{cause_in, reason_of}
use Rattle.port_lanes.specs.declared.lane_port.LanePort.{LanePort}
use Rattle.port_lanes.specs.declared.unstored.Unstored.{Unstored}
use Rattle.port_lanes.specs.declared.unstored.Unstored.TheVariants.{Memory}
use Rattle.record_codec.specs.Apply.{fold}
use Rattle.record_codec.specs.declared.durable.Durable.{Durable}
use Rattle.record_codec.specs.declared.record.Record.{Record}

-- a command that failed for this reason
abbrev pub command_failed : Unstored → WorldState → ℕ → Apdu → Made
command_failed reason state port c =
    failed_command state port c (cause_in reason)

-- a piece of a package fails out of memory alone, and the start of a load never
abbrev pub FailsLoadFor : Unstored → WorldState → ℕ → LoadStep → Made → Type 0
FailsLoadFor reason state port (Begin metadata) made = ⊥
FailsLoadFor reason state port (Piece piece) made =
    (reason ≡ Memory) × (made ≡ failed_piece state port)
FailsLoadFor reason state port End made =
    made ≡ failed_end state port (cause_in reason)

abbrev pub FailsFor : Unstored → WorldState → Event → Made → Type 0
FailsFor reason state (Bytes port bytes) made =
    (c : Apdu) × Spells bytes c × (made ≡ command_failed reason state port c)
FailsFor reason state (Reset port) made = ⊥
FailsFor reason state (Load port step) made = FailsLoadFor reason state port step made
FailsFor reason state Power made = ⊥

-- the event was made, or it failed for this reason
abbrev pub HappensFor : Option Unstored → Event → WorldState → Made → Type 0
HappensFor None event state made = Makes state event made
HappensFor (Some reason) event state made = FailsFor reason state event made

-- It made this of a card where the port is, its lines stand in the log, and what the card keeps is
-- by these records.
pub record StepsIn (comes : WorldState → Made → Type 0) (before after : LanePort)
    (records : List Record) (state : WorldState) : Type 0 where
  pub made : Made
  pub is : comes state made
  pub port : IsPortOf made.state after
  pub log : after.log.entries ≡ before.log.entries ++ made.entries
  pub kept : made.state.durable ≡ fold state.durable records
  pub commits : made.state.commits ≡ state.commits + length records

-- it did so with every card where the port may be, and took room for one line
pub record StepsPort (comes : WorldState → Made → Type 0) (before after : LanePort)
    (records : List Record) : Type 0 where
  pub rest : after ≡ record before { port = after.port; log = after.log }
  pub statements : after.port.statements ≡ before.port.statements + 1
  pub session : HasItsSession before → HasItsSession after
  pub room : before.log.room ≤ after.log.room + 1
  pub each : (state : WorldState) → IsSoundState state → IsPortOf state before
      → StepsIn comes before after records state

-- the records that a commit made
abbrev pub stored : Record → Option BookFault → List Record
stored entry None = entry ∷ []
stored entry (Some fault) = []

-- a record was to be committed: it was, or the statement failed for the reason of its refusal
pub record CommitsOne (begun : Durable) (may_come : List HistoryEntry → Type 0)
    (before after : List HistoryEntry) (port : ℕ) (failure : Option Unstored)
    (records : List Record) : Type 0 where
  pub entry : Record
  pub result : Result Receipt BookFault
  pub commits : CommitsFor begun may_come before after port entry result
  pub records_are : records ≡ stored entry (result_err result)
  pub failure_is : failure ≡ option_map reason_of (result_err result)

-- no record was to be committed, or the memory for it was wanting; then the history stays
pub record CommitsNone (before after : List HistoryEntry) (failure : Option Unstored)
    (records : List Record) : Type 0 where
  pub known : after ≡ before
  pub records_are : records ≡ []
  pub failure_is : (failure ≡ None) ⊎ (failure ≡ Some Memory)

-- what a statement committed through a keeper
abbrev pub CommitsFrom : Durable → (List HistoryEntry → Type 0) → List HistoryEntry
    → List HistoryEntry → ℕ → Option Unstored → List Record → Type 0
CommitsFrom begun may_come before after port failure records =
    CommitsNone before after failure records
    ⊎ CommitsOne begun may_come before after port failure records
