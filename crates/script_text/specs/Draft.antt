-- A script as far as it has been read.
use Rattle.std.specs.Prelude.{◌≡◌, ℕ, ◌<◌, ◌≤◌, List, [], ◌∷◌, ◌++◌, ⊤, slice_index, true}
use Rattle.std.specs.List.{fold}
use Rattle.card_core.specs.declared.script.Phase.{Phase}
use Rattle.card_core.specs.declared.script.Script.{Script}
use Rattle.card_core.specs.declared.script.Section.{Section}
use Rattle.card_core.specs.declared.script.Statement.{Statement}
use Rattle.script_text.specs.Ports.{NamesPort}
use Rattle.script_text.specs.Script.{count_at, is_at}
use Rattle.script_text.specs.declared.draft.Draft.{Draft}
use Rattle.script_text.specs.declared.fault.ScriptFault.{ScriptFault}
use Rattle.script_text.specs.declared.fault.ScriptFault.TheVariants.{Bad, NoMemory}
use Rattle.script_text.specs.declared.fault.ScriptKind.TheVariants.{TooMany}
use Rattle.script_text.specs.Item.{Item}
use Rattle.script_text.specs.Item.Item.{Stated, PhaseEnd, SectionEnd}

-- the sections that have ended, the phases of the last section that have ended, and the statements
-- of its last phase
pub record OpenScript : Type 0 where
  pub sections : List Section
  pub phases : List Phase
  pub statements : List Statement

-- nothing has been read
abbrev pub empty_script : OpenScript
empty_script = record { sections = []; phases = []; statements = [] }

abbrev pub open_phase : OpenScript → Phase
open_phase open_script = record { statements = open_script.statements }

abbrev pub open_section : OpenScript → Section
open_section open_script = record { phases = open_script.phases ++ open_phase open_script ∷ [] }

-- the script, where no more lines follow
abbrev pub finished : OpenScript → Script
finished open_script =
    record { sections = open_script.sections ++ open_section open_script ∷ [] }

abbrev pub with_item : OpenScript → Item → OpenScript
with_item open_script (Stated statement) =
    record open_script { statements = open_script.statements ++ statement ∷ [] }
with_item open_script PhaseEnd =
    record open_script {
      phases = open_script.phases ++ open_phase open_script ∷ [];
      statements = [];
    }
with_item open_script SectionEnd =
    record {
      sections = open_script.sections ++ open_section open_script ∷ [];
      phases = [];
      statements = [];
    }

-- what the items so far come to
abbrev pub script_so_far : Draft → OpenScript
script_so_far draft = fold with_item empty_script draft.script

-- the statements of the last section are counted at each port
abbrev pub CountsStatements : Draft → Type 0
CountsStatements draft = (port : ℕ) → port < 8
    → slice_index draft.counts port ≡ count_at port (open_section (script_so_far draft))

abbrev pub NamesPortIfStated : Item → Type 0
NamesPortIfStated (Stated statement) = NamesPort statement
NamesPortIfStated PhaseEnd = ⊤
NamesPortIfStated SectionEnd = ⊤

-- the last section has fewer than 20,000 statements at the port of the statement
abbrev pub HasStatementRoom : OpenScript → Statement → Type 0
HasStatementRoom open_script statement = (port : ℕ) → is_at port statement ≡ true
    → count_at port (open_section open_script) < 20000

abbrev pub HasRoomIfStated : OpenScript → Item → Type 0
HasRoomIfStated open_script (Stated statement) = HasStatementRoom open_script statement
HasRoomIfStated open_script PhaseEnd = ⊤
HasRoomIfStated open_script SectionEnd = ⊤

-- it has no room for it
abbrev pub IsFull : OpenScript → Statement → Type 0
IsFull open_script statement = (port : ℕ) × (is_at port statement ≡ true)
    × (20000 ≤ count_at port (open_section open_script))

-- why an item isn't added; memory may run out
abbrev pub IsNotAdded : OpenScript → Item → ScriptFault → Type 0
IsNotAdded open_script (Stated statement) (Bad line kind) =
    (line ≡ statement.line) × (kind ≡ TooMany) × IsFull open_script statement
IsNotAdded open_script PhaseEnd (Bad line kind) = ⊥
IsNotAdded open_script SectionEnd (Bad line kind) = ⊥
IsNotAdded open_script item NoMemory = ⊤
