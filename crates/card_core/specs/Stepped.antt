-- What comes to a card, one after another, each statement made whole or failed.
use Rattle.std.specs.Prelude.{◌≡◌, Bool, true, false, List, [], ◌∷◌}
use Rattle.card_core.specs.Failed.{FailsWith}
use Rattle.card_core.specs.Statements.{Makes}
use Rattle.card_core.specs.World.{Made, WorldState}
use Rattle.card_core.specs.declared.event.Event.{Event}

-- one event, the card to which it came, whether memory was wanting for it or its record wasn't
-- stored, and what it made of the card
pub record Stepped : Type 0 where
  pub before : WorldState
  pub event : Event
  pub failed : Bool
  pub made : Made

abbrev pub Happens : Bool → WorldState → Event → Made → Type 0
Happens false state event made = Makes state event made
Happens true state event made = FailsWith state event made

-- the events came to the card in these steps, one after another, and took it to this one
abbrev pub AreSteps : WorldState → List Event → List Stepped → WorldState → Type 0
AreSteps state [] steps after = (steps ≡ []) × (after ≡ state)
AreSteps state (event ∷ events) steps after =
    (failed : Bool) × (made : Made) × (rest : List Stepped) × Happens failed state event made
    × AreSteps made.state events rest after
    × (steps ≡ record { before = state; event = event; failed = failed; made = made } ∷ rest)

abbrev pub NotFailed : Stepped → Type 0
NotFailed step = step.failed ≡ false
