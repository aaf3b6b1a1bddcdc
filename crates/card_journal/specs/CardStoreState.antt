-- What contracts see of a store of a card, whatever it is made of.
use Rattle.std.specs.Prelude.{ℕ, ◌≡◌, ◌⊎◌, List, Option, Some, None, IfSome, IsSome}
use Rattle.card_journal.specs.Read.{OnlyReads}
use Rattle.flash_pages.specs.Flash.{FlashState, LeavesOnly, MayLeaveOnly}
use Rattle.record_codec.specs.Apply.{apply}
use Rattle.record_codec.specs.declared.durable.Durable.{Durable}
use Rattle.record_codec.specs.declared.record.Record.{Record}

pub record CardStoreState : Type 1 where
  -- what the card holds
  pub held : Durable
  -- the record whose commit failed, as long as that isn't repaired
  pub unrepaired : Option Record
  pub flash : FlashState

-- this is held, or that after the record, if there is one
abbrev pub IsHeldWith : Durable → Option Record → Durable → Type 0
IsHeldWith held None after = after ≡ held
IsHeldWith held (Some entry) after = (after ≡ held) ⊎ (after ≡ apply held entry)

-- The image holds this, or this after the record, if there is one. What an image holds is a
-- relation between the image and a card.
abbrev pub HoldsOneOf : (List ℕ → Durable → Type 0) → Durable → Option Record → List ℕ → Type 0
HoldsOneOf holds held None image = holds image held
HoldsOneOf holds held (Some entry) image = holds image held ⊎ holds image (apply held entry)

-- The flash keeps what the store holds: each content that a restart may leave, of which what reads
-- return is one, holds that. Where a record is unrepaired, each of these holds that, or that after
-- the record.
abbrev pub KeepsHeld : (List ℕ → Durable → Type 0) → CardStoreState → Type 0
KeepsHeld holds store = MayLeaveOnly store.flash (HoldsOneOf holds store.held store.unrepaired)

-- A commit of a record: each image since it began holds what was held, or that after the record
-- that was unrepaired, or after this one. From its end on the flash keeps what the store then
-- holds.
pub record IsAtomic (holds : List ℕ → Durable → Type 0) (old new : CardStoreState) (entry : Record)
    : Type 0 where
  pub images : LeavesOnly old.flash new.flash
      (λ image. HoldsOneOf holds old.held old.unrepaired image
      ⊎ holds image (apply old.held entry))
  pub keeps : KeepsHeld holds new

-- A commit that was refused since a switch row is used up: it needed a switch of the part with that
-- row, the flash was only read, and what is unrepaired is as before.
pub record IsRefusedUsedUp (needs : ℕ → Type 0) (is_used_up : ℕ → List ℕ → Type 0)
    (old new : CardStoreState) : Type 0 where
  pub row : ℕ
  pub needed : needs row
  pub used_up : IfSome old.flash.bytes (is_used_up row)
  pub reads : OnlyReads old.flash new.flash
  pub unrepaired : new.unrepaired ≡ old.unrepaired

-- an opening of the image needs a switch of a part whose switch row has no byte to use
abbrev pub OpensUsedUp : (List ℕ → ℕ → Type 0) → (ℕ → List ℕ → Type 0) → List ℕ → Type 0
OpensUsedUp needs is_used_up image = (row : ℕ) × needs image row × is_used_up row image

-- power came back with one of the contents that a restart might leave, and an opening of that had
-- the bytes that it needed
abbrev pub CameBack : (List ℕ → ℕ → Type 0) → (ℕ → List ℕ → Type 0) → FlashState → Type 0
CameBack needs is_used_up old =
    IsSome old.bytes
    → (left : List ℕ) × old.may_leave left × (¬ OpensUsedUp needs is_used_up left)
