-- What is told of a statement or a power cycle.
use Rattle.std.specs.Prelude.{Bool, true, false, List}
use Rattle.std.specs.List.{list_any}
use Rattle.profile_card.specs.Failing.{is_failing}
use Rattle.card_core.specs.Stepped.{Stepped}
use Rattle.card_core.specs.declared.entry.Entry.{Entry}
use Rattle.card_core.specs.declared.entry.Line.{Line}
use Rattle.card_core.specs.declared.entry.Line.TheVariants as lines
use Rattle.card_core.specs.declared.entry.Loading.{Loading}
use Rattle.card_core.specs.declared.entry.Loading.TheVariants as loadings
use Rattle.card_core.specs.declared.event.Event.{Event}

-- what came, and its lines in the log
pub record Told : Type 0 where
  pub event : Event
  pub entries : List Entry

abbrev pub told_of : Stepped → Told
told_of step = record { event = step.event; entries = step.made.entries }

-- memory was wanting for a step of a load, or its record wasn't stored
abbrev pub is_failed_load : Loading → Bool
is_failed_load loadings.Begun = false
is_failed_load loadings.Taken = false
is_failed_load (loadings.Done profile commit) = false
is_failed_load loadings.NotBegun = false
is_failed_load loadings.Metadata = false
is_failed_load (loadings.Element place result) = false
is_failed_load (loadings.Refused refusal) = false
is_failed_load loadings.Memory = true
is_failed_load (loadings.Flash cause) = true

-- a line tells that its statement failed
abbrev pub tells_failure : Line → Bool
tells_failure (lines.Answered number answer cause) = is_failing answer.sw
tells_failure (lines.OwnReset number) = false
tells_failure (lines.Loaded number outcome) = is_failed_load outcome
tells_failure (lines.ForeignReset by) = false
tells_failure (lines.Unbound profile refresh kept by commit) = false
tells_failure (lines.Bound profile refresh kept by commit) = false

abbrev pub has_failed : Told → Bool
has_failed told = list_any (λ entry. tells_failure entry.line) told.entries
