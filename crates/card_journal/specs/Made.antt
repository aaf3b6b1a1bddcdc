-- A new card on a blank flash.
use Rattle.std.specs.Prelude.{ℕ, ◌≢◌, ◌⊎◌, ◌*◌, ◌-◌, ◌≤◌, ◌<◌, List, [], slice_index, Option, Some}
use Rattle.std.specs.Prelude.{None, IfSome}
use Rattle.card_journal.specs.Image.{HoldsCard}
use Rattle.flash_pages.specs.Bytes.{IsErased}
use Rattle.card_journal.specs.Read.{OnlyReads}
use Rattle.flash_pages.specs.Flash.{FlashState, block_len, card_blocks}
use Rattle.port_table.specs.declared.port_mode.PortMode.{PortMode}
use Rattle.record_codec.specs.IsDurable.{fewest_ports}
use Rattle.record_codec.specs.PutCard.{new_card}
use Rattle.record_codec.specs.declared.durable.Durable.{Durable}

-- a card has so many ports
pub record HasPorts (mode : PortMode) (ports : ℕ) : Type 0 where
  pub some : fewest_ports mode ≤ ports
  pub few : ports ≤ 8

-- a card as it is made: with no profile, next number 1100 and next sequence number 1
abbrev pub made_card : PortMode → ℕ → List ℕ → Durable
made_card mode ports eid = new_card mode ports eid 1100 1 []

-- all bytes of the flash are FF
abbrev pub IsBlank : List ℕ → Type 0
IsBlank image = IsErased 0 (block_len * card_blocks) image

-- the first byte from the one place on that isn't FF stands at the other
pub record IsFirstUsed (from place : ℕ) (image : List ℕ) : Type 0 where
  pub behind : from ≤ place
  pub blank : IsErased from (place - from) image
  pub used : slice_index image place ≢ 255

-- the first of so many bytes that isn't FF, if there is one
abbrev pub FirstUsedIs : ℕ → ℕ → Option ℕ → List ℕ → Type 0
FirstUsedIs from to None image = IsErased from (to - from) image
FirstUsedIs from to (Some place) image = (place < to) × IsFirstUsed from place image

-- a flash on which a byte isn't FF is only read
abbrev pub LeavesUsed : FlashState → FlashState → Type 0
LeavesUsed old new = IfSome old.bytes (λ image. ¬ IsBlank image → OnlyReads old new)

-- the image holds no card, or this one
abbrev pub HoldsNoneOr : Durable → List ℕ → Type 0
HoldsNoneOr held image = ((other : Durable) → ¬ HoldsCard image other) ⊎ HoldsCard image held
