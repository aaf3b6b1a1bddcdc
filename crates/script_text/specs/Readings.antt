-- What the parts of the reader return for the words that they are given.
use Rattle.std.specs.Prelude.{◌≡◌, ℕ, ⊤, List, Option, Some, None, Result, Ok, Err}
use Rattle.card_core.specs.declared.script.Script.{Script}
use Rattle.script_text.specs.Line.{IsFaulty, Says}
use Rattle.script_text.specs.Item.{Item}
use Rattle.script_text.specs.Lent.{lent_item}
use Rattle.script_text.specs.Script.{HasFirstFault, IsScript, script_of}
use Rattle.script_text.specs.Words.{IsPassedOver}
use Rattle.script_text.specs.declared.fault.ScriptFault.{ScriptFault}
use Rattle.script_text.specs.declared.fault.ScriptFault.TheVariants.{Bad, NoMemory}
use Rattle.script_text.specs.declared.fault.ScriptKind.TheVariants.{Grammar}
use Rattle.script_text.specs.declared.item.ItemRef.{ItemRef}
use Rattle.script_text.specs.declared.line_set.LineSet.{LineSet}

-- the value is related to the words, and none is where there is no value
abbrev pub IsFound : {X : Type 0} → (X → Type 0) → Option X → Type 0
IsFound P (Some value) = P value
IsFound {X} P None = (value : X) → ¬ P value

-- the same where what is found stands for the value
abbrev pub IsFoundAs : {X Y : Type 0} → (X → Y) → (Y → Type 0) → Option X → Type 0
IsFoundAs value_of P (Some found) = P (value_of found)
IsFoundAs {X} {Y} value_of P None = (value : Y) → ¬ P value

-- the same where memory may run out
abbrev pub IsReading :
    {X Y E : Type 0} → (X → Y) → (Y → Type 0) → Result (Option X) E → Type 0
IsReading value_of P (Ok found) = IsFoundAs value_of P found
IsReading value_of P (Err error) = ⊤

-- what a line of this number and these words says, unless memory runs out
abbrev pub IsLineReading :
    LineSet → ℕ → List (List ℕ) → Result (Option ItemRef) ScriptFault → Type 0
IsLineReading set number its (Ok (Some lent)) = Says set number its (lent_item lent)
IsLineReading set number its (Ok None) = IsPassedOver its
IsLineReading set number its (Err (Bad line kind)) =
    (line ≡ number) × (kind ≡ Grammar) × IsFaulty set number its
IsLineReading set number its (Err NoMemory) = ⊤

-- the answer is that of the text, unless memory runs out
abbrev pub IsTextReading : LineSet → List ℕ → Result (List Item) ScriptFault → Type 0
IsTextReading set text (Ok items) = IsScript set text (script_of items)
IsTextReading set text (Err (Bad number kind)) = HasFirstFault set text number kind
IsTextReading set text (Err NoMemory) = ⊤

-- this script was read, unless memory ran out
abbrev pub IsReadAs : Script → Result (List Item) ScriptFault → Type 0
IsReadAs script (Ok items) = script_of items ≡ script
IsReadAs script (Err (Bad number kind)) = ⊥
IsReadAs script (Err NoMemory) = ⊤
