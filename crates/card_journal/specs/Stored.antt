-- What the flash of a store holds.
use Rattle.std.specs.Prelude.{ℕ, ◌≡◌, ◌⊎◌, ◌-◌, List, Option, Some, IfSome, Result, OnOk}
use Rattle.flash_pages.specs.Append.{EndsBlank}
use Rattle.flash_pages.specs.Bank.{bank_bytes, start_of}
use Rattle.flash_pages.specs.Flash.{FlashState, MayLeaveOnly, Throughout}
use Rattle.flash_pages.specs.Switch.{live_of}
use Rattle.card_journal.specs.CardStoreState.{HoldsOneOf}
use Rattle.card_journal.specs.Image.{AreCodings, HoldsCard, Leave, bank_of, switch_row}
use Rattle.record_codec.specs.Apply.{apply}
use Rattle.record_codec.specs.declared.durable.Durable.{Durable}
use Rattle.record_codec.specs.declared.record.Record.{Record}

-- the image holds one of these
abbrev pub HoldsEither : Durable → Durable → List ℕ → Type 0
HoldsEither one other image = HoldsCard image one ⊎ HoldsCard image other

-- the image holds this, or this after the record, if there is one
abbrev pub HoldsWith : Durable → Option Record → List ℕ → Type 0
HoldsWith held unrepaired image = HoldsOneOf HoldsCard held unrepaired image

-- this bank is the live one, its open rows are the codings of records that leave this, and from
-- this place on all its bytes are FF
pub record EndsClean (held : Durable) (live end : ℕ) (image : List ℕ) : Type 0 where
  pub live_is : live ≡ live_of (switch_row image)
  pub bodies : List (List ℕ)
  pub entries : List Record
  pub rows : EndsBlank (bank_bytes (bank_of live) image) bodies (end - start_of (bank_of live))
  pub codings : AreCodings bodies entries
  pub left : Leave entries held

-- no card ends clean in the live bank: none is held, or behind its rows a byte isn't FF
abbrev pub EndsTorn : List ℕ → Type 0
EndsTorn image = (held : Durable) (live end : ℕ) → ¬ EndsClean held live end image

-- The flash holds this, in this bank up to this place, and so does each content that a restart may
-- leave.
pub record IsStored (flash : FlashState) (held : Durable) (live end : ℕ) : Type 0 where
  pub bytes : IfSome flash.bytes (EndsClean held live end)
  pub may_leave : MayLeaveOnly flash (λ content. HoldsCard content held)

-- A record's row behind those of what is held: at each moment the flash holds that, or that after
-- the record, and after Ok the latter, up to the next place.
pub record AppendsRecord {T E : Type 0} (held : Durable) (entry : Record) (live next : ℕ)
    (old new : FlashState) (result : Result T E) : Type 0 where
  pub throughout : Throughout (HoldsWith held (Some entry)) old new
  pub done : OnOk result (IsStored new (apply held entry) live next)
