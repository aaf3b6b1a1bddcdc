-- The script language: which text is a script, and what is at fault first in any other.
use Rattle.std.specs.Prelude.{◌≡◌, ℕ, ◌+◌, ◌<◌, ◌≤◌, ◌⊎◌, ◌==◌, Bool, true, false, List, []}
use Rattle.std.specs.Prelude.{◌∷◌, ◌++◌, length, take, map, count_by, sum_by, Option, Some, None}
use Rattle.std.specs.List.{AllByRecursion, flat_map, slice_split}
use Rattle.std.specs.Option.{option_map_or}
use Rattle.std.specs.Str.Lines.{lines}
use Rattle.card_core.specs.declared.event.Event.{Event}
use Rattle.card_core.specs.declared.event.Event.TheVariants.{Apdu, Reset, Load, Power}
use Rattle.card_core.specs.declared.script.Phase.{Phase}
use Rattle.card_core.specs.declared.script.Script.{Script}
use Rattle.card_core.specs.declared.script.Section.{Section}
use Rattle.card_core.specs.declared.script.Statement.{Statement}
use Rattle.script_text.specs.Line.{IsFaulty, Says}
use Rattle.script_text.specs.Words.{IsPassedOver, words}
use Rattle.script_text.specs.declared.fault.ScriptKind.{ScriptKind}
use Rattle.script_text.specs.declared.fault.ScriptKind.TheVariants.{Grammar, TooMany, TooLong}
use Rattle.script_text.specs.Item.{Item}
use Rattle.script_text.specs.Item.Item.{Stated, PhaseEnd, SectionEnd}
use Rattle.script_text.specs.declared.line_set.LineSet.{LineSet}

-- these lines, the first of which has this number, are passed over or say these items, in order
abbrev pub HaveItems : LineSet → ℕ → List (List ℕ) → List Item → Type 0
HaveItems set number [] items = items ≡ []
HaveItems set number (line ∷ more) items =
    (IsPassedOver (words line) × HaveItems set (number + 1) more items)
    ⊎ ((item : Item) × (others : List Item) × Says set number (words line) item
    × (items ≡ item ∷ others) × HaveItems set (number + 1) more others)

abbrev pub is_phase_end : Item → Bool
is_phase_end (Stated statement) = false
is_phase_end PhaseEnd = true
is_phase_end SectionEnd = false

abbrev pub is_section_end : Item → Bool
is_section_end (Stated statement) = false
is_section_end PhaseEnd = false
is_section_end SectionEnd = true

abbrev pub statement_in : Item → List Statement
statement_in (Stated statement) = statement ∷ []
statement_in PhaseEnd = []
statement_in SectionEnd = []

-- a phase has the statements of its lines
abbrev pub phase_of : List Item → Phase
phase_of items = record { statements = flat_map statement_in items }

-- a section is cut into phases at each line `phase`
abbrev pub section_of : List Item → Section
section_of items = record { phases = map phase_of (slice_split is_phase_end items) }

-- a script is cut into sections at each line `power`
abbrev pub script_of : List Item → Script
script_of items = record { sections = map section_of (slice_split is_section_end items) }

-- the port at which an event comes
abbrev pub event_port : Event → Option ℕ
event_port (Apdu port apdu) = Some port
event_port (Reset port) = Some port
event_port (Load port step) = Some port
event_port Power = None

abbrev pub is_at : ℕ → Statement → Bool
is_at port statement = option_map_or (λ its. its == port) (event_port statement.event) false

-- how many statements of a section are at a port
abbrev pub count_at : ℕ → Section → ℕ
count_at port section =
    sum_by (λ phase. count_by (is_at port) phase.statements) section.phases

-- no section has more than 20,000 statements at a port
abbrev pub HasFewStatements : Script → Type 0
HasFewStatements script =
    AllByRecursion (λ section. (port : ℕ) → count_at port section ≤ 20000) script.sections

-- The text is this script. Of its lines each ends with a line feed, and a carriage return before
-- that is dropped; the last needs no line feed, and keeps a carriage return at its end.
pub record IsScript (set : LineSet) (text : List ℕ) (script : Script) : Type 0 where
  pub items : List Item
  pub short : length text ≤ 8388608
  pub read : HaveItems set 1 (lines text) items
  pub cut : script ≡ script_of items
  pub few : HasFewStatements script

-- the number of the line that the byte at this place stands in
abbrev pub line_of_byte : List ℕ → ℕ → ℕ
line_of_byte text place = count_by (λ b. b == 10) (take place text) + 1

-- the line of this number, and what the lines before it say, none of which is at fault
pub record ReadsUpTo (set : LineSet) (text : List ℕ) (number : ℕ) (items : List Item)
    (line : List ℕ) : Type 0 where
  pub before : List (List ℕ)
  pub after : List (List ℕ)
  pub short : length text ≤ 8388608
  pub parts : lines text ≡ before ++ line ∷ after
  pub counted : number ≡ length before + 1
  pub read : HaveItems set 1 before items
  pub few : HasFewStatements (script_of items)

-- the first line at fault has this number, and this fault: a text that is too long has no other
abbrev pub HasFirstFault : LineSet → List ℕ → ℕ → ScriptKind → Type 0
HasFirstFault set text number TooLong =
    (8388608 < length text) × (number ≡ line_of_byte text 8388608)
HasFirstFault set text number Grammar =
    (items : List Item) × (line : List ℕ) × ReadsUpTo set text number items line
    × IsFaulty set number (words line)
HasFirstFault set text number TooMany =
    (items : List Item) × (line : List ℕ) × (item : Item) × ReadsUpTo set text number items line
    × Says set number (words line) item × ¬ HasFewStatements (script_of (items ++ item ∷ []))

-- it is a script, or it has a first line at fault
abbrev pub IsScriptOrFaulty : LineSet → List ℕ → Type 0
IsScriptOrFaulty set text =
    ((script : Script) × IsScript set text script)
    ⊎ ((number : ℕ) × (kind : ScriptKind) × HasFirstFault set text number kind)
