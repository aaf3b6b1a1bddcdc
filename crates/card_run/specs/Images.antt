-- `new` and `list`: what they come to over the image of a flash.
use Rattle.std.specs.Prelude.{◌≡◌, ℕ, List, Option, Some, None, IfSome, false, ⊤}
use Rattle.std.specs.Io.KnownBytes.{Appends}
use Rattle.card_core.specs.Listing.{listing_text}
use Rattle.card_journal.specs.Image.{HoldsCard}
use Rattle.card_journal.specs.Made.{HoldsNoneOr, IsBlank, IsFirstUsed, LeavesUsed}
use Rattle.card_journal.specs.Read.{OnlyReads}
use Rattle.card_journal.specs.StoreState.{HasNextByte, IsWorn}
use Rattle.card_journal.specs.Stored.{EndsTorn}
use Rattle.card_journal.specs.declared.make_fault.MakeFault.{MakeFault}
use Rattle.card_journal.specs.declared.make_fault.MakeFault.TheVariants as make_fault
use Rattle.card_journal.specs.declared.open_fault.OpenFault.{OpenFault}
use Rattle.card_journal.specs.declared.open_fault.OpenFault.TheVariants as open_fault
use Rattle.flash_pages.specs.Flash.{FlashState, LeavesOnly, MayLeaveOnly, Throughout}
use Rattle.flash_pages.specs.Shelf.{LeavesOtherNames, ShelfPlace}
use Rattle.port_io.specs.Faults.{Rose}
use Rattle.port_io.specs.Sink.{TakesPart}
use Rattle.record_codec.specs.declared.durable.Durable.{Durable}
use Rattle.card_run.specs.declared.status.Status.{Status}
use Rattle.card_run.specs.declared.status.Status.TheVariants as status

-- a sink at a moment: what was written to it, where it reports that, and its faults so far
pub record Output : Type 0 where
  pub written : Option (List ℕ)
  pub faults : ℕ

abbrev pub output : Option (List ℕ) → ℕ → Output
output written faults = record { written = written; faults = faults }

-- how the printing of a text ends: all of it was written; the sink failed and a prefix was written;
-- or memory was wanting and nothing was
abbrev pub IsPrinted : List ℕ → Output → Output → Status → Type 0
IsPrinted text before after status.Done = Appends before.written after.written text
IsPrinted text before after status.WriteFault =
    Rose before.faults after.faults × TakesPart before.written after.written text
IsPrinted text before after status.NoMemory = after ≡ before
IsPrinted text before after status.Usage = ⊥
IsPrinted text before after (status.Script line kind) = ⊥
IsPrinted text before after status.ReadFault = ⊥
IsPrinted text before after (status.FlashFault from to) = ⊥
IsPrinted text before after status.NotACard = ⊥
IsPrinted text before after (status.NotBlank place) = ⊥
IsPrinted text before after status.Worn = ⊥

-- the listing of what the image held was printed; where opening needed a switch, the switch row had
-- a byte to use
pub record PrintsHeld (old : FlashState) (before after : Output) (status : Status) : Type 0 where
  pub held : Durable
  pub holds : IfSome old.bytes (λ image. HoldsCard image held)
  pub switched : IfSome old.bytes EndsTorn → HasNextByte old
  pub text : IsPrinted (listing_text held) before after status

-- the image holds a card, opening it needed a switch, and the switch row had no byte to use
pub record WasWorn (old : FlashState) : Type 0 where
  pub card : IfSome old.bytes (λ image. (held : Durable) × HoldsCard image held)
  pub needed : IfSome old.bytes EndsTorn
  pub worn : IsWorn old

-- How a listing ends. No card is there where the image holds none; the switch row is used up where
-- opening needed a switch. Then nothing is printed.
abbrev pub IsListed : FlashState → Output → Output → Status → Type 0
IsListed old before after status.Done = PrintsHeld old before after status.Done
IsListed old before after status.WriteFault = PrintsHeld old before after status.WriteFault
IsListed old before after status.NoMemory = after ≡ before
IsListed old before after status.NotACard =
    IfSome old.bytes (λ image. (held : Durable) → ¬ HoldsCard image held) × (after ≡ before)
IsListed old before after status.Worn = WasWorn old × (after ≡ before)
IsListed old before after (status.FlashFault from to) = after ≡ before
IsListed old before after status.Usage = ⊥
IsListed old before after (status.Script line kind) = ⊥
IsListed old before after status.ReadFault = ⊥
IsListed old before after (status.NotBlank place) = ⊥

-- a new card was made on a blank flash, which then keeps it, also over a restart, and its listing
-- was printed
pub record PrintsMade (card : Durable) (old new : FlashState) (before after : Output)
    (status : Status) : Type 0 where
  pub blank : IfSome old.bytes IsBlank
  pub keeps : MayLeaveOnly new (λ content. HoldsCard content card)
  pub text : IsPrinted (listing_text card) before after status

-- How the making of a card ends. A flash with a byte that isn't FF is left as it was, and the place
-- is that of the first one.
abbrev pub MakingEnds : Durable → FlashState → FlashState → Output → Output → Status → Type 0
MakingEnds card old new before after status.Done = PrintsMade card old new before after status.Done
MakingEnds card old new before after status.WriteFault =
    PrintsMade card old new before after status.WriteFault
MakingEnds card old new before after status.NoMemory = after ≡ before
MakingEnds card old new before after (status.NotBlank place) =
    IfSome old.bytes (IsFirstUsed 0 place) × OnlyReads old new × (after ≡ before)
MakingEnds card old new before after (status.FlashFault from to) = after ≡ before
MakingEnds card old new before after status.Usage = ⊥
MakingEnds card old new before after (status.Script line kind) = ⊥
MakingEnds card old new before after status.ReadFault = ⊥
MakingEnds card old new before after status.NotACard = ⊥
MakingEnds card old new before after status.Worn = ⊥

-- a fault is reported only where a count rose: that of the image's name, from the one number to the
-- other, or the sink's
abbrev pub HasImageCause : ℕ → ℕ → ℕ → ℕ → Status → Type 0
HasImageCause old new before after (status.FlashFault from to) =
    Rose old new × (from ≡ old) × (to ≡ new)
HasImageCause old new before after status.WriteFault = Rose before after
HasImageCause old new before after status.Done = ⊤
HasImageCause old new before after status.NoMemory = ⊤
HasImageCause old new before after status.NotACard = ⊤
HasImageCause old new before after (status.NotBlank place) = ⊤
HasImageCause old new before after status.Worn = ⊤
HasImageCause old new before after status.Usage = ⊥
HasImageCause old new before after (status.Script line kind) = ⊥
HasImageCause old new before after status.ReadFault = ⊥

-- this holds of the flash that lies there before and after, where they are reported
abbrev pub OfFlashes : {F : Type 0} → (F → FlashState) → ShelfPlace F → ShelfPlace F
    → (FlashState → FlashState → Type 0) → Type 0
OfFlashes state old new holds =
    IfSome old.there (λ flash. IfSome new.there (λ after. holds (state flash) (state after)))

-- what a listing leaves: each card that was held is held at each moment
abbrev pub KeepsCards : FlashState → FlashState → Type 0
KeepsCards old new =
    (held : Durable) → MayLeaveOnly old (λ content. HoldsCard content held)
    → Throughout (λ content. HoldsCard content held) old new

-- what the making of a card leaves: of a blank flash at each moment no card or the new one; any
-- other flash is only read
pub record LeavesNoneOr (card : Durable) (old new : FlashState) : Type 0 where
  pub blank : IfSome old.bytes IsBlank → LeavesOnly old new (HoldsNoneOr card)
  pub used : LeavesUsed old new

-- A run of `list` on the image of a name: how it ends, what it leaves there, and that the flash was
-- given back. Other names are as they were.
pub record ListsCard {F : Type 0} (state : F → FlashState) (image : List ℕ)
    (old new : List ℕ → ShelfPlace F) (before after : Output) (status : Status) : Type 0 where
  pub listed : OfFlashes state (old image) (new image)
      (λ flash later. IsListed flash before after status)
  pub cause : HasImageCause (old image).faults (new image).faults before.faults after.faults status
  pub images : OfFlashes state (old image) (new image) KeepsCards
  pub back : (new image).is_out ≡ false
  pub others : LeavesOtherNames image old new

-- the same of a run of `new`, which makes a card
pub record MakesNewCard {F : Type 0} (state : F → FlashState) (card : Durable) (image : List ℕ)
    (old new : List ℕ → ShelfPlace F) (before after : Output) (status : Status) : Type 0 where
  pub made : OfFlashes state (old image) (new image)
      (λ flash later. MakingEnds card flash later before after status)
  pub cause : HasImageCause (old image).faults (new image).faults before.faults after.faults status
  pub images : OfFlashes state (old image) (new image) (LeavesNoneOr card)
  pub back : (new image).is_out ≡ false
  pub others : LeavesOtherNames image old new

-- how a run ends whose card wasn't opened
abbrev pub opening_status : OpenFault → Status
opening_status (open_fault.Flash before after) = status.FlashFault before after
opening_status open_fault.NotACard = status.NotACard
opening_status open_fault.Worn = status.Worn
opening_status open_fault.NoMemory = status.NoMemory

-- how a run ends whose card wasn't made
abbrev pub making_status : MakeFault → Status
making_status (make_fault.Flash before after) = status.FlashFault before after
making_status (make_fault.NotBlank place) = status.NotBlank place
making_status make_fault.NoMemory = status.NoMemory
