-- What a statement leaves for which memory was wanting or whose record wasn't stored. What the card
-- keeps and its sessions are as before, and no other port has a line.
use Rattle.std.specs.Prelude.{ℕ, ◌≡◌, ◌+◌, ◌&&◌, [], ◌∷◌, Option, Some, None, option_map}
use Rattle.std.specs.Prelude.{if◌then◌else◌}
use Rattle.apdu_codec.specs.Answer.{status_alone}
use Rattle.apdu_codec.specs.Command.{Apdu, Spells}
use Rattle.apdu_codec.specs.declared.answers.Answer.{Answer}
use Rattle.profile_card.specs.Own.{is_common}
use Rattle.card_core.specs.Desk.{failed_desk}
use Rattle.card_core.specs.IsdrCommand.{is_shared_command}
use Rattle.card_core.specs.Load.{end_made, ends_with, load_step}
use Rattle.card_core.specs.LoadState.{LoadState}
use Rattle.card_core.specs.PortState.{PortState, counted}
use Rattle.card_core.specs.World.{Made, WorldState, count_if, entry_at, next_maker, port_in}
use Rattle.card_core.specs.World.{with_port}
use Rattle.card_core.specs.declared.entry.Cause.{Cause}
use Rattle.card_core.specs.declared.entry.Line.TheVariants.{Answered}
use Rattle.card_core.specs.declared.entry.Loading.{Loading}
use Rattle.card_core.specs.declared.entry.Loading.TheVariants.{Flash, Memory}
use Rattle.card_core.specs.declared.event.Event.{Event}
use Rattle.card_core.specs.declared.event.Event.TheVariants.{Apdu as Bytes, Load, Power, Reset}
use Rattle.card_core.specs.declared.event.LoadStep.{LoadStep}
use Rattle.card_core.specs.declared.event.LoadStep.TheVariants.{Begin, End, Piece}

-- what a command for the ISD-R fed is dropped, and a command of the card leaves the desk alone
abbrev pub failed_port : PortState → Apdu → PortState
failed_port port c = record (counted port) {
  desk = if is_common port.session c then failed_desk port.desk c else port.desk;
}

-- `6F00` says that memory was wanting, and `6581` that the record wasn't stored for this cause
abbrev pub failed_answer : Option Cause → Answer
failed_answer None = status_alone (record { 0 = 0x6F00 })
failed_answer (Some cause) = status_alone (record { 0 = 0x6581 })

abbrev pub failed_command : WorldState → ℕ → Apdu → Option Cause → Made
failed_command state port c cause = record {
  state = record (with_port state port (failed_port (port_in state port) c)) {
    shared = state.shared
        + count_if (is_common (port_in state port).session c && is_shared_command c);
  };
  entries = entry_at state port
      (Answered (next_maker state port).number (failed_answer cause) cause) ∷ [];
}

-- no bytes of the package are kept any more
abbrev pub spoiled : LoadState → LoadState
spoiled load = record load { received = None }

-- a load that couldn't begin leaves the one that is there
abbrev pub failed_begin : WorldState → ℕ → Made
failed_begin state port =
    load_step state port (record { load = (port_in state port).load; outcome = Memory })

-- a piece for which memory was wanting spoils its load
abbrev pub failed_piece : WorldState → ℕ → Made
failed_piece state port = load_step state port (record {
  load = option_map spoiled (port_in state port).load;
  outcome = Memory;
})

abbrev pub failed_load : Option Cause → Loading
failed_load None = Memory
failed_load (Some cause) = Flash cause

-- the end of a load takes it away all the same
abbrev pub failed_end : WorldState → ℕ → Option Cause → Made
failed_end state port cause = end_made state port (ends_with state.durable (failed_load cause))

abbrev pub FailsLoadWith : WorldState → ℕ → LoadStep → Made → Type 0
FailsLoadWith state port (Begin metadata) made = made ≡ failed_begin state port
FailsLoadWith state port (Piece piece) made = made ≡ failed_piece state port
FailsLoadWith state port End made =
    (cause : Option Cause) × (made ≡ failed_end state port cause)

-- a command and a step of a load may fail; a reset and a power cycle want no memory and make no
-- record
abbrev pub FailsWith : WorldState → Event → Made → Type 0
FailsWith state (Bytes port bytes) made =
    (c : Apdu) × (cause : Option Cause) × Spells bytes c
    × (made ≡ failed_command state port c cause)
FailsWith state (Reset port) made = ⊥
FailsWith state (Load port step) made = FailsLoadWith state port step made
FailsWith state Power made = ⊥
