-- Scripts of commands at port 1 alone.
use Rattle.std.specs.Prelude.{◌≡◌, ℕ, ◌≤◌, List, [], ◌∷◌, length, IsTrue}
use Rattle.std.specs.List.{AllByRecursion}
use Rattle.card_core.specs.declared.script.Script.{Script}
use Rattle.card_core.specs.declared.script.Statement.{Statement}
use Rattle.script_text.specs.Line.{is_command_at}
use Rattle.script_text.specs.Ports.{statements_of}

-- a script that isn't cut, of these statements
abbrev pub uncut_script : List Statement → Script
uncut_script statements =
    record { sections = record { phases = record { statements = statements } ∷ [] } ∷ [] }

abbrev pub AreCommandsAt : ℕ → List Statement → Type 0
AreCommandsAt port statements =
    AllByRecursion (λ statement. IsTrue (is_command_at port statement.event)) statements

-- the script isn't cut, and has at most 20,000 statements, each a command at port 1
pub record IsCommandScript (script : Script) : Type 0 where
  pub whole : script ≡ uncut_script (statements_of script)
  pub few : length (statements_of script) ≤ 20000
  pub commands : AreCommandsAt 1 (statements_of script)
