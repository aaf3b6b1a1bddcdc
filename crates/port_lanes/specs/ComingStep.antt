-- What a statement of a port makes of the card, or what it leaves where it fails.
use Rattle.std.specs.Prelude.{ℕ, ◌≡◌, Option, Some, None}
use Rattle.apdu_codec.specs.Answer.{status_alone}
use Rattle.apdu_codec.specs.Command.{apdu_of}
use Rattle.card_core.specs.Failed.{failed_end, failed_piece}
use Rattle.card_core.specs.Load.{MakesEnd, begin_made, piece_made}
use Rattle.card_core.specs.PortReset.{reset_made}
use Rattle.card_core.specs.Statements.{command_made}
use Rattle.card_core.specs.World.{Made, WorldState, answered_alone}
use Rattle.port_lanes.specs.LaneStep.{command_failed}
use Rattle.port_lanes.specs.Unstored.{cause_in}
use Rattle.port_lanes.specs.declared.coming.Coming.{Coming}
use Rattle.port_lanes.specs.declared.coming.Coming.TheVariants.{Begins, Command, Ends, Feeds}
use Rattle.port_lanes.specs.declared.coming.Coming.TheVariants.{Resets, Unspelled}
use Rattle.port_lanes.specs.declared.unstored.Unstored.{Unstored}
use Rattle.port_lanes.specs.declared.unstored.Unstored.TheVariants.{Memory}

abbrev pub ComingMakes : ℕ → Coming → WorldState → Made → Type 0
ComingMakes port (Command c) state made = made ≡ command_made state port (apdu_of c)
ComingMakes port (Unspelled sw) state made = made ≡ answered_alone state port (status_alone sw)
ComingMakes port Resets state made = made ≡ reset_made state port
ComingMakes port (Begins metadata) state made = made ≡ begin_made state port metadata.now
ComingMakes port (Feeds piece) state made = made ≡ piece_made state port piece.now
ComingMakes port Ends state made = MakesEnd state port made

abbrev pub ComingFails : Unstored → ℕ → Coming → WorldState → Made → Type 0
ComingFails reason port (Command c) state made =
    made ≡ command_failed reason state port (apdu_of c)
ComingFails reason port (Feeds piece) state made =
    (reason ≡ Memory) × (made ≡ failed_piece state port)
ComingFails reason port Ends state made = made ≡ failed_end state port (cause_in reason)
ComingFails reason port _ state made = ⊥

abbrev pub ComingHappens : Option Unstored → ℕ → Coming → WorldState → Made → Type 0
ComingHappens None port coming state made = ComingMakes port coming state made
ComingHappens (Some reason) port coming state made =
    ComingFails reason port coming state made
