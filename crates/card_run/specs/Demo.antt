-- What `demo` prints.
use Rattle.std.specs.Prelude.{◌≡◌, ℕ, ◌+◌, Option, None, List, [], ◌∷◌, map, take}
use Rattle.std.specs.Io.KnownBytes.{Appends}
use Rattle.apdu_codec.specs.declared.answers.Answer.{Answer}
use Rattle.card_core.specs.Text.{log_text}
use Rattle.card_core.specs.declared.entry.Entry.{Entry}
use Rattle.card_core.specs.declared.entry.Line.TheVariants.{Answered}
use Rattle.card_core.specs.declared.event.Event.{Event}
use Rattle.card_core.specs.declared.event.Event.TheVariants.{Apdu, Reset, Load, Power}
use Rattle.card_core.specs.declared.script.Script.{Script}
use Rattle.card_core.specs.declared.script.Statement.{Statement}
use Rattle.profile_card.specs.Sample.{sample_card}
use Rattle.profile_card.specs.Step.{Runs}
use Rattle.script_text.specs.Ports.{statements_of}
use Rattle.script_text.specs.Script.{IsScript}
use Rattle.script_text.specs.declared.line_set.LineSet.TheVariants.{PortOne}

-- the text is a script of commands at port 1
abbrev pub IsSomeScript : List ℕ → Type 0
IsSomeScript text = (script : Script) × IsScript PortOne text script

-- the bytes that an event sends as a command
abbrev pub command_of : Event → List ℕ
command_of (Apdu port apdu) = apdu
command_of (Reset port) = []
command_of (Load port step) = []
command_of Power = []

-- what the sample card answers to the commands of statements
abbrev pub IsRun : List Statement → List Answer → Type 0
IsRun statements answers =
    Runs sample_card (map (λ statement. command_of statement.event) statements) answers

-- the log of port 1 has the answer to statement K
abbrev pub answer_entry : ℕ → Answer → Entry
answer_entry number answer = record { turn = 0; port = 1; line = Answered number answer None }

-- an entry for each answer, the first of which has this number
abbrev pub answer_log : ℕ → List Answer → List Entry
answer_log number [] = []
answer_log number (answer ∷ answers) =
    answer_entry number answer ∷ answer_log (number + 1) answers

abbrev pub demo_text : List Answer → List ℕ
demo_text answers = log_text (answer_log 1 answers)

-- the text of the sample card's answers to a script
abbrev pub IsAnswerText : List ℕ → List ℕ → Type 0
IsAnswerText text printed =
    (script : Script) × (answers : List Answer) × IsScript PortOne text script
    × IsRun (statements_of script) answers × (printed ≡ demo_text answers)

-- a prefix of the text was written, behind what was
abbrev pub WritesPrefix : Option (List ℕ) → Option (List ℕ) → List ℕ → Type 0
WritesPrefix before after text = (count : ℕ) × Appends before after (take count text)
