-- What a switch leaves of an image.
use Rattle.std.specs.Prelude.{ℕ, ◌≡◌, ◌⊎◌, ◌-◌, List, [], ◌∷◌, ◌++◌, map, Some, IfSome}
use Rattle.card_journal.specs.Copy.{copy_of}
use Rattle.card_journal.specs.Image.{bank_of, switch_row}
use Rattle.flash_pages.specs.Append.{EndsBlank}
use Rattle.flash_pages.specs.Bank.{bank_bytes, start_of}
use Rattle.flash_pages.specs.Bytes.{DiffersIn, patch}
use Rattle.flash_pages.specs.Flash.{FlashState}
use Rattle.flash_pages.specs.Switch.{IsNextByte, live_of}
use Rattle.record_codec.specs.Spelling.{spelling}
use Rattle.record_codec.specs.declared.durable.Durable.{Durable}
use Rattle.record_codec.specs.declared.record.Record.{Record}

-- what holds of the bytes before some calls and after them, where they are told
abbrev pub FromTo : FlashState → FlashState → (List ℕ → List ℕ → Type 0) → Type 0
FromTo old new R = IfSome old.bytes (λ before. IfSome new.bytes (R before))

-- of the switch row the next byte alone is another
pub record UsesNextByte (before after : List ℕ) : Type 0 where
  pub next : ℕ
  pub is_next : IsNextByte (switch_row before) (Some next)
  pub differs : DiffersIn next 1 (switch_row before) (switch_row after)

-- the switch row stays, or where this holds the next byte alone is another
abbrev pub KeepsSwitchRow : Type 0 → List ℕ → List ℕ → Type 0
KeepsSwitchRow needed before after =
    (switch_row after ≡ switch_row before) ⊎ (needed × UsesNextByte before after)

-- the bodies of the rows of the copy
abbrev pub copy_bodies : Durable → List (List ℕ)
copy_bodies held = map spelling (copy_of held)

-- and behind them that of a record
abbrev pub bodies_with : Durable → Record → List (List ℕ)
bodies_with held entry = copy_bodies held ++ spelling entry ∷ []

-- A switch: the next byte of the switch row is 00 and no other is another, and the bank that was
-- idle has rows with these bodies up to this place, and FF from there on.
pub record IsSwitched (bodies : List (List ℕ)) (live end : ℕ) (before after : List ℕ)
    : Type 0 where
  pub next : ℕ
  pub is_next : IsNextByte (switch_row before) (Some next)
  pub row : switch_row after ≡ patch (switch_row before) next (0 ∷ [])
  pub other : live ≡ 1 - live_of (switch_row before)
  pub rows : EndsBlank (bank_bytes (bank_of live) after) bodies (end - start_of (bank_of live))
