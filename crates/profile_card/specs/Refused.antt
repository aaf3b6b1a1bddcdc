-- What a command changes that isn't accepted.
use Rattle.std.specs.Prelude.{◌≡◌, Contains, IfSome}
use Rattle.file_rows.specs.declared.change.Change.TheVariants.{PinSet}
use Rattle.file_rows.specs.declared.pin.PinRow.{PinRow}
use Rattle.pin_state.specs.Tries.{KeepsAllButTries}
use Rattle.uicc_channels.specs.CommandOutcome.{CommandOutcome}
use Rattle.profile_card.specs.Card.{Card}

-- of the session at most which PINs are verified, and of the content at most the tries left of one
-- PIN and of its PUK
abbrev pub ChangesTriesAlone : Card → CommandOutcome → Type 0
ChangesTriesAlone card outcome =
    (outcome.session ≡ record card.session { verified = outcome.session.verified })
    × IfSome outcome.change
    (λ change. (pin : PinRow) × (after : PinRow) × Contains card.content.pins pin
    × (change ≡ PinSet after) × KeepsAllButTries pin after)
