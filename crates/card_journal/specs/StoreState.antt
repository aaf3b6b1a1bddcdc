-- What contracts see of a store.
use Rattle.std.specs.Prelude.{ℕ, ◌≡◌, List, ◌<◌, ◌≤◌, ◌+◌, length, Option, None, IfSome, IsSome}
use Rattle.flash_pages.specs.Bank.{IsPlaceIn, end_of}
use Rattle.flash_pages.specs.Flash.{FlashState}
use Rattle.flash_pages.specs.Switch.{IsNextByte}
use Rattle.card_journal.specs.CardStoreState.{CardStoreState, IsAtomic, IsHeldWith, KeepsHeld}
use Rattle.card_journal.specs.Image.{HoldsCard, MakesCard, bank_of, switch_row}
use Rattle.card_journal.specs.Read.{OnlyReads}
use Rattle.card_journal.specs.Stored.{EndsClean, EndsTorn}
use Rattle.record_codec.specs.FitsCard.{FitsCard}
use Rattle.record_codec.specs.IsDurable.{IsDurable}
use Rattle.record_codec.specs.Spelling.{spelling}
use Rattle.record_codec.specs.declared.durable.Durable.{Durable}
use Rattle.record_codec.specs.declared.record.Record.{Record}

pub record StoreState : Type 1 where
  -- what the card holds
  pub held : Durable
  -- the record whose commit failed, as long as that isn't repaired
  pub unrepaired : Option Record
  pub flash : FlashState
  -- the live bank, and the place behind its open rows, where no record is unrepaired
  pub live : ℕ
  pub end : ℕ

-- What a call needs, so that it programs erased bytes alone: what is held is what a card may hold,
-- and where no record is unrepaired the flash reads as that, up to the end of the open rows of the
-- live bank, and as FF behind them.
pub record IsUsable (store : StoreState) : Type 0 where
  pub valid : IsDurable store.held
  pub bank : store.live < 2
  pub place : IsPlaceIn (bank_of store.live) store.end
  pub ends : store.unrepaired ≡ None → IfSome store.flash.bytes
      (EndsClean store.held store.live store.end)

-- what contracts see of any store of a card
abbrev pub card_store_of : StoreState → CardStoreState
card_store_of store =
    record { held = store.held; unrepaired = store.unrepaired; flash = store.flash }

abbrev pub KeepsCard : StoreState → Type 0
KeepsCard store = KeepsHeld HoldsCard (card_store_of store)

-- a commit takes the record: it fits what is held, and makes no new card
pub record MayCommit (held : Durable) (entry : Record) : Type 0 where
  pub fits : FitsCard held entry
  pub later : ¬ MakesCard entry

-- the row of the record has room behind the open rows of the live bank
abbrev pub RowHasRoom : StoreState → Record → Type 0
RowHasRoom store entry = store.end + 5 + length (spelling entry) ≤ end_of (bank_of store.live)

-- a commit of the record switches to the other bank, unless no record is unrepaired and its row has
-- room in the live one
abbrev pub NeedsSwitch : StoreState → Record → Type 0
NeedsSwitch store entry = ¬ ((store.unrepaired ≡ None) × RowHasRoom store entry)

-- where the flash tells its bytes, its switch row has no byte to use
abbrev pub IsWorn : FlashState → Type 0
IsWorn flash = IfSome flash.bytes (λ image. IsNextByte (switch_row image) None)

-- where the flash tells its bytes, its switch row has a byte to use
abbrev pub HasNextByte : FlashState → Type 0
HasNextByte flash = IfSome flash.bytes (λ image. ¬ IsNextByte (switch_row image) None)

-- A store that wasn't opened since the switch row is used up: the flash holds a card, the opening
-- needed a switch, since no card ends clean in the live bank, and the flash was only read.
pub record IsNotOpenedWorn (old new : FlashState) : Type 0 where
  pub card : IfSome old.bytes (λ image. (held : Durable) × HoldsCard image held)
  pub needed : IfSome old.bytes EndsTorn
  pub worn : IsWorn old
  pub reads : OnlyReads old new

-- A store that was opened again holds what it held, or that after the record that was unrepaired.
abbrev pub Reopens : StoreState → StoreState → Type 0
Reopens old new = IsSome old.flash.bytes → IsHeldWith old.held old.unrepaired new.held

-- A commit that was refused since the switch row is used up: it needed a switch, the flash was only
-- read, and what is unrepaired is as before.
pub record IsRefusedWorn (old new : StoreState) (entry : Record) : Type 0 where
  pub needed : NeedsSwitch old entry
  pub worn : IsWorn old.flash
  pub reads : OnlyReads old.flash new.flash
  pub unrepaired : new.unrepaired ≡ old.unrepaired

-- A commit of a record: at each moment since it began the flash holds what was held, or that after
-- the record that was unrepaired, or after this one. From its end on the flash keeps what the store
-- then holds.
abbrev pub Commits : StoreState → StoreState → Record → Type 0
Commits old new entry = IsAtomic HoldsCard (card_store_of old) (card_store_of new) entry

-- an opening of the image needs a switch, whatever the number of its switch row
abbrev pub OpensTorn : List ℕ → ℕ → Type 0
OpensTorn image row = EndsTorn image

-- the switch row of the image has no byte to use, whatever its number
abbrev pub IsUsedUp : ℕ → List ℕ → Type 0
IsUsedUp row image = IsNextByte (switch_row image) None
