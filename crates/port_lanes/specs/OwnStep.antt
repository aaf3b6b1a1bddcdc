-- A command that the card of a lane's port answers.
use Rattle.std.specs.Prelude.{ℕ, ◌≡◌, List, [], ◌∷◌, Option, Some, None}
use Rattle.apdu_codec.specs.Command.{Apdu}
use Rattle.card_core.specs.OwnCommand.{own_made}
use Rattle.card_core.specs.Statements.{command_made}
use Rattle.card_core.specs.World.{Made, WorldState}
use Rattle.file_rows.specs.declared.change.Change.{Change}
use Rattle.port_lanes.specs.LaneStep.{command_failed}
use Rattle.port_lanes.specs.declared.unstored.Unstored.{Unstored}
use Rattle.record_codec.specs.declared.record.Record.{Record}
use Rattle.record_codec.specs.declared.record.Record.TheVariants.{Content}

-- the card answered it, or it failed for this reason
abbrev pub OwnHappens : Option Unstored → ℕ → Apdu → WorldState → Made → Type 0
OwnHappens None port c state made = made ≡ own_made state port c
OwnHappens (Some reason) port c state made = made ≡ command_failed reason state port c

-- the record of a change of the content of the profile that stands there; where none does, nothing
-- changes
abbrev pub change_records : Option ℕ → Option Change → List Record
change_records None change = []
change_records (Some profile) None = []
change_records (Some profile) (Some change) = Content profile change ∷ []

-- the command was answered, or it failed for this reason
abbrev pub CommandHappens : Option Unstored → ℕ → Apdu → WorldState → Made → Type 0
CommandHappens None port c state made = made ≡ command_made state port c
CommandHappens (Some reason) port c state made = made ≡ command_failed reason state port c
