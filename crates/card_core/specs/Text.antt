-- The printed text of a run: the log of each port, section by section.
use Rattle.std.specs.Prelude.{ℕ, ◌/◌, ◌%◌, List, [], ◌∷◌, ◌++◌, codes, decimal}
use Rattle.std.specs.List.{flat_map}
use Rattle.hex.specs.Hex.{encode_upper}
use Rattle.apdu_codec.specs.declared.answers.Answer.{Answer}
use Rattle.isdr_commands.specs.declared.install.LoadRefusal.{LoadRefusal}
use Rattle.isdr_commands.specs.declared.install.LoadRefusal.TheVariants.{IccidExists}
use Rattle.isdr_commands.specs.declared.install.LoadRefusal.TheVariants.{ProfilesFull}
use Rattle.isdr_commands.specs.declared.install.LoadRefusal.TheVariants.{NotificationsFull}
use Rattle.card_core.specs.declared.entry.Entry.{Entry}
use Rattle.card_core.specs.declared.entry.Line.{Line}
use Rattle.card_core.specs.declared.entry.Line.TheVariants.{Answered, OwnReset, Loaded}
use Rattle.card_core.specs.declared.entry.Line.TheVariants.{ForeignReset, Unbound, Bound}
use Rattle.card_core.specs.declared.entry.Loading.{Loading}
use Rattle.card_core.specs.declared.entry.Loading.TheVariants.{Begun, Taken, Done, NotBegun}
use Rattle.card_core.specs.declared.entry.Loading.TheVariants.{Metadata, Element, Refused}
use Rattle.card_core.specs.declared.entry.Loading.TheVariants.{Memory, Flash}
use Rattle.card_core.specs.declared.entry.Maker.{Maker}

-- the number of a profile, in four hex digits
abbrev pub profile_text : ℕ → List ℕ
profile_text profile = encode_upper (profile / 256 ∷ profile % 256 ∷ [])

-- an answer: its body and its status word
abbrev pub answer_text : Answer → List ℕ
answer_text answer =
    encode_upper answer.body ++ encode_upper (answer.sw.0 / 256 ∷ answer.sw.0 % 256 ∷ [])

-- `N.K`, statement K of port N
abbrev pub statement_text : ℕ → ℕ → List ℕ
statement_text port number = decimal port ++ codes "." ++ decimal number

-- ` by M.K`
abbrev pub maker_text : Maker → List ℕ
maker_text by = codes " by " ++ statement_text by.port by.number

-- ` #C`
abbrev pub commit_text : ℕ → List ℕ
commit_text commit = codes " #" ++ decimal commit

abbrev pub refusal_text : LoadRefusal → List ℕ
refusal_text IccidExists = codes "iccid exists"
refusal_text ProfilesFull = codes "profiles full"
refusal_text NotificationsFull = codes "notifications full"

-- what a step of a load came to
abbrev pub loading_text : Loading → List ℕ
loading_text Begun = codes "begun"
loading_text Taken = codes "taken"
loading_text (Done profile commit) = codes "done " ++ profile_text profile ++ commit_text commit
loading_text NotBegun = codes "refused not begun"
loading_text Metadata = codes "refused metadata"
loading_text (Element place result) =
    codes "refused element " ++ decimal place ++ codes " result " ++ decimal result
loading_text (Refused refusal) = codes "refused " ++ refusal_text refusal
loading_text Memory = codes "refused memory"
loading_text (Flash cause) = codes "refused flash"

-- a line of the log of a port
abbrev pub line_text : ℕ → Line → List ℕ
line_text port (Answered number answer cause) =
    statement_text port number ++ codes " " ++ answer_text answer
line_text port (OwnReset number) = statement_text port number ++ codes " reset"
line_text port (Loaded number outcome) =
    statement_text port number ++ codes " load " ++ loading_text outcome
line_text port (ForeignReset by) = decimal port ++ codes ".- reset" ++ maker_text by
line_text port (Unbound profile refresh kept by commit) =
    decimal port ++ codes ".- unbound " ++ profile_text profile ++ maker_text by
    ++ commit_text commit
line_text port (Bound profile refresh kept by commit) =
    decimal port ++ codes ".- bound " ++ profile_text profile ++ maker_text by
    ++ commit_text commit

abbrev pub entry_text : Entry → List ℕ
entry_text entry = line_text entry.port entry.line ++ codes "\n"

-- the log of a port
abbrev pub log_text : List Entry → List ℕ
log_text entries = flat_map entry_text entries

-- a section: its number, from 1, and then the logs of its ports in ascending order
abbrev pub section_text : ℕ → List (List Entry) → List ℕ
section_text number logs =
    codes "section " ++ decimal number ++ codes "\n" ++ flat_map log_text logs
