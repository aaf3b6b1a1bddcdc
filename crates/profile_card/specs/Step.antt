use Rattle.std.specs.Prelude.{ℕ, ◌≡◌, ◌⊎◌, Bool, false, List, [], ◌∷◌, Option, Some, None}
use Rattle.apdu_codec.specs.Command.{Spells, Apdu, refusal}
use Rattle.apdu_codec.specs.declared.answers.Answer.{Answer}
use Rattle.file_rows.specs.declared.change.Change.{Change}
use Rattle.uicc_channels.specs.CommandOutcome.{CommandOutcome, refused}
use Rattle.uicc_channels.specs.Session.{fresh_session}
use Rattle.profile_card.specs.Card.{Card, card_after}
use Rattle.profile_card.specs.Commands.{decision}

-- what comes to a card: a command APDU, a reset of its port, a power cycle, and that it comes to
-- stand on a port or leaves it (GSMA SGP.22, Multiple Enabled Profiles). With a new port a REFRESH
-- may be asked for, and a channel kept.
pub data Event : Type 0 where
  Command : List ℕ → Event
  Reset : Event
  Power : Event
  Bound : ℕ → Bool → Option ℕ → Event
  Unbound : Event

-- what comes of it: an answer, the card after it, and what was changed in its content
pub record Outcome : Type 0 where
  pub answer : Option Answer
  pub card : Card
  pub change : Option Change

-- nothing is answered, and nothing changed in the content
abbrev pub silent : Card → Outcome
silent card = record { answer = None; card = card; change = None }

-- what a command comes to is carried out
abbrev pub carried_out : Card → CommandOutcome → Outcome
carried_out card outcome =
    record { answer = Some outcome.answer; card = card_after card outcome; change = outcome.change }

-- what a card answers to these bytes: to a command by its instruction, and to anything else with
-- its refusal
abbrev pub Responds : Card → List ℕ → Outcome → Type 0
Responds card bytes outcome =
    ((c : Apdu) × Spells bytes c × (outcome ≡ carried_out card (decision card c)))
    ⊎ (((c : Apdu) → ¬ Spells bytes c)
    × (outcome ≡ carried_out card (refused card.session (refusal bytes))))

-- the card after a reset of its port
abbrev pub restarted : Card → Card
restarted card = record card { session = fresh_session false None }

-- one event at a card on this port, or on none; without a port only a new one counts
abbrev pub StepsAt : Option ℕ → Card → Event → Outcome → Type 0
StepsAt (Some port) card (Command bytes) outcome = Responds card bytes outcome
StepsAt (Some port) card Reset outcome = outcome ≡ silent (restarted card)
StepsAt (Some port) card Power outcome = outcome ≡ silent (restarted card)
StepsAt None card (Command bytes) outcome = outcome ≡ silent card
StepsAt None card Reset outcome = outcome ≡ silent card
StepsAt None card Power outcome = outcome ≡ silent card
StepsAt from card (Bound port refresh kept) outcome =
    outcome ≡ silent (record card { session = fresh_session refresh kept; port = Some port })
StepsAt from card Unbound outcome = outcome ≡ silent (record card { port = None })

-- one event at a card
abbrev pub Steps : Card → Event → Outcome → Type 0
Steps card event outcome = StepsAt card.port card event outcome

-- the card at a port answers these bytes so, and comes to this
abbrev pub AnswersWith : Card → List ℕ → Answer → Card → Type 0
AnswersWith card bytes answer after =
    (change : Option Change)
    × Steps card (Command bytes) (record { answer = Some answer; card = after; change = change })

-- to these command APDUs, one after another, the card gives these answers, and comes to this
abbrev pub RunsTo : Card → List (List ℕ) → List Answer → Card → Type 0
RunsTo card [] [] after = after ≡ card
RunsTo card [] (answer ∷ answers) after = ⊥
RunsTo card (bytes ∷ rest) [] after = ⊥
RunsTo card (bytes ∷ rest) (answer ∷ answers) after =
    (next : Card) × AnswersWith card bytes answer next × RunsTo next rest answers after

-- what the card answers to these command APDUs, one after another
abbrev pub Runs : Card → List (List ℕ) → List Answer → Type 0
Runs card commands answers = (after : Card) × RunsTo card commands answers after
