-- The statements of a script: the ports that they name, and their pieces of packages.
use Rattle.std.specs.Prelude.{◌≡◌, ℕ, ◌<◌, Bool, false, nat_le, List, [], length, Option, Some}
use Rattle.std.specs.Prelude.{find, sum_by}
use Rattle.std.specs.List.{flat_map}
use Rattle.std.specs.Option.{option_map, option_map_or}
use Rattle.card_core.specs.declared.event.Event.{Event}
use Rattle.card_core.specs.declared.event.Event.TheVariants.{Apdu, Reset, Load, Power}
use Rattle.card_core.specs.declared.event.LoadStep.{LoadStep}
use Rattle.card_core.specs.declared.event.LoadStep.TheVariants.{Begin, Piece, End}
use Rattle.card_core.specs.declared.script.Script.{Script}
use Rattle.card_core.specs.declared.script.Statement.{Statement}
use Rattle.script_text.specs.Script.{event_port}

-- the statements of a script, in order
abbrev pub statements_of : Script → List Statement
statements_of script =
    flat_map (λ section. flat_map (λ phase. phase.statements) section.phases) script.sections

-- whether a statement names a port that isn't below the count
abbrev pub is_beyond : ℕ → Statement → Bool
is_beyond count statement =
    option_map_or (λ port. nat_le count port) (event_port statement.event) false

-- the line of the first such statement
abbrev pub line_beyond : ℕ → List Statement → Option ℕ
line_beyond count statements =
    option_map (λ statement. statement.line) (find (is_beyond count) statements)

abbrev pub first_beyond : ℕ → Script → Option ℕ
first_beyond count script = line_beyond count (statements_of script)

-- the statement is at one of the eight ports, so it is no power cycle
abbrev pub NamesPort : Statement → Type 0
NamesPort statement = (port : ℕ) × (port < 8) × (event_port statement.event ≡ Some port)

abbrev pub step_piece : LoadStep → List ℕ
step_piece (Begin metadata) = []
step_piece (Piece bytes) = bytes
step_piece End = []

-- the bytes of a package that an event brings
abbrev pub piece_of : Event → List ℕ
piece_of (Apdu port apdu) = []
piece_of (Reset port) = []
piece_of (Load port step) = step_piece step
piece_of Power = []

-- how many bytes the pieces of a script have together
abbrev pub script_piece_bytes : Script → ℕ
script_piece_bytes script =
    sum_by (λ statement. length (piece_of statement.event)) (statements_of script)
