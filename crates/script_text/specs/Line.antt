-- What a line of a script says, by its number and its words.
use Rattle.std.specs.Prelude.{◌≡◌, ℕ, ◌==◌, Bool, true, false, List, [], ◌∷◌, codes, IsTrue}
use Rattle.card_core.specs.declared.event.Event.{Event}
use Rattle.card_core.specs.declared.event.Event.TheVariants.{Apdu, Reset, Load, Power}
use Rattle.script_text.specs.Statement.{IsStatement}
use Rattle.script_text.specs.Words.{IsPassedOver}
use Rattle.script_text.specs.Item.{Item}
use Rattle.script_text.specs.Item.Item.{Stated, PhaseEnd, SectionEnd}
use Rattle.script_text.specs.declared.line_set.LineSet.{LineSet}
use Rattle.script_text.specs.declared.line_set.LineSet.TheVariants.{All, PortOne}

-- the line of this number: a statement, `phase` or `power`
abbrev pub IsLine : ℕ → List (List ℕ) → Item → Type 0
IsLine number its (Stated statement) =
    (statement.line ≡ number) × IsStatement its statement.event
IsLine number its PhaseEnd = its ≡ codes "phase" ∷ []
IsLine number its SectionEnd = its ≡ codes "power" ∷ []

abbrev pub is_command_at : ℕ → Event → Bool
is_command_at port (Apdu its apdu) = its == port
is_command_at port (Reset its) = false
is_command_at port (Load its step) = false
is_command_at port Power = false

-- whether a line that says this may stand in the script
abbrev pub is_admitted : LineSet → Item → Bool
is_admitted All item = true
is_admitted PortOne (Stated statement) = is_command_at 1 statement.event
is_admitted PortOne PhaseEnd = false
is_admitted PortOne SectionEnd = false

abbrev pub Says : LineSet → ℕ → List (List ℕ) → Item → Type 0
Says set number its item = IsLine number its item × IsTrue (is_admitted set item)

-- neither passed over nor one that says something
abbrev pub IsFaulty : LineSet → ℕ → List (List ℕ) → Type 0
IsFaulty set number its = ¬ IsPassedOver its × ((item : Item) → ¬ Says set number its item)
