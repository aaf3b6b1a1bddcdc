-- A card that holds one profile alone, given what a whole card gives the profile.
use Rattle.std.specs.Prelude.{ℕ, ◌≡◌, ◌≢◌, ◌⊎◌, List, [], ◌∷◌, ◌++◌, Option, Some, None}
use Rattle.std.specs.List.{AllByRecursion}
use Rattle.apdu_codec.specs.declared.answers.Answer.{Answer}
use Rattle.file_rows.specs.declared.content.Content.{Content}
use Rattle.profile_card.specs.Card.{Card}
use Rattle.profile_card.specs.Step.{Event as CardEvent, Outcome, Steps}
use Rattle.record_codec.specs.Heads.{held_content}
use Rattle.card_core.specs.Port.{profile_on}
use Rattle.card_core.specs.Share.{AreShares, Share}
use Rattle.card_core.specs.Stepped.{Stepped}
use Rattle.card_core.specs.World.{WorldState, card_in}

abbrev pub answer_list : Option Answer → List Answer
answer_list None = []
answer_list (Some answer) = answer ∷ []

-- the card of one profile alone, given these events, gives these answers and comes to this
abbrev pub RunsAlone : Card → List CardEvent → List Answer → Card → Type 0
RunsAlone card [] answers after = (answers ≡ []) × (after ≡ card)
RunsAlone card (event ∷ events) answers after =
    (outcome : Outcome) × (rest : List Answer) × Steps card event outcome
    × RunsAlone outcome.card events rest after
    × (answers ≡ answer_list outcome.answer ++ rest)

-- the card of a profile that stands on no port has no port, and its content where it is held
pub record IsOnNoPort (profile : ℕ) (state : WorldState) (card : Card) : Type 0 where
  pub nowhere : (port : ℕ) → profile_on state.durable port ≢ Some profile
  pub port : card.port ≡ None
  pub mode : card.mode ≡ state.durable.heads.ports.mode
  pub content : (content : Content) → held_content profile state.durable ≡ Some content
      → card.content ≡ content

-- the card of a profile alone, by a whole card: where the profile stands on a port it is the card
-- there
abbrev pub IsCardOf : ℕ → WorldState → Card → Type 0
IsCardOf profile state card =
    ((port : ℕ) × (profile_on state.durable port ≡ Some profile) × (card ≡ card_in state port))
    ⊎ IsOnNoPort profile state card

-- where the step installs the profile, it is with that content
abbrev pub InstallsWith : ℕ → Content → Stepped → Type 0
InstallsWith profile content step =
    (its : Content) → held_content profile step.before.durable ≡ None
    → held_content profile step.made.state.durable ≡ Some its → content ≡ its

-- the card of a profile alone at the start of a run; where the run installs the profile, that card
-- has the content with which it comes, and no port
pub record StartsAlone (profile : ℕ) (start : WorldState) (steps : List Stepped) (card : Card)
    : Type 0 where
  pub its : IsCardOf profile start card
  pub installed : held_content profile start.durable ≡ None
      → AllByRecursion (InstallsWith profile card.content) steps

-- in a run a profile's own commands were answered as its card alone answers them, given the same
-- commands and what else came to the profile, and that card came to be the profile's
abbrev pub IsAnsweredAlone : ℕ → WorldState → List Stepped → WorldState → Type 0
IsAnsweredAlone profile start steps after =
    (card : Card) → StartsAlone profile start steps card
    → (share : Share) × (now : Card) × AreShares profile steps share
    × RunsAlone card share.given share.answers now × IsCardOf profile after now
