-- What contracts see of a flash, and what each of its calls does to that.
--
-- Moments are numbers. Between two calls there is one image, which is what reads return. Inside a
-- call there is each image that a power cut at that moment may leave.
use Rattle.std.specs.Prelude.{◌≡◌, ◌⊎◌, ◌↔◌, ℕ, ◌+◌, ◌*◌, ◌%◌, ◌<◌, ◌≤◌, Bool, IsTrue, List, length}
use Rattle.std.specs.Prelude.{Option, Some, IsSome, IfSome, Result, is_ok}
use Rattle.port_io.specs.Faults.{NeverFalls}
use Rattle.port_io.specs.declared.source.Failed.{Failed}
use Rattle.flash_pages.specs.Bytes.{patch, DiffersIn}

-- how many bytes a block has
abbrev pub block_len : ℕ
block_len = 4096

-- how many bytes a program call takes at most
abbrev pub piece_len : ℕ
piece_len = 256

-- how many blocks the card's flash has; the words below take the number as an argument, since other
-- flashes have more
abbrev pub card_blocks : ℕ
card_blocks = 2433

pub record FlashState : Type 1 where
  -- what reads return, where that is known
  pub bytes : Option (List ℕ)
  -- the contents that a restart may leave, known wherever the bytes are
  pub may_leave : List ℕ → Type 0
  pub moment : ℕ
  -- the images of all moments from that one on, where they are known
  pub images : ℕ → List ℕ → Type 0
  pub images_known : Bool
  -- how many calls of these kinds there were, and how many faults
  pub programmed : ℕ
  pub erased : ℕ
  pub faults : ℕ

-- each content that a restart may leave has P
abbrev pub MayLeaveOnly : FlashState → (List ℕ → Type 0) → Type 0
MayLeaveOnly flash P = IsSome flash.bytes → (content : List ℕ) → flash.may_leave content → P content

-- a restart leaves what reads return
abbrev pub IsSettled : FlashState → Type 0
IsSettled flash = MayLeaveOnly flash (λ content. flash.bytes ≡ Some content)

pub record HasMoments (flash : FlashState) : Type 0 where
  -- what reads return is the image of this moment, which is one of those since an earlier one
  pub now : (t : ℕ) (image : List ℕ) → t ≤ flash.moment → flash.bytes ≡ Some image
      → flash.images t image
  -- since this moment there is no other
  pub only_now : (image : List ℕ) → flash.images flash.moment image → flash.bytes ≡ Some image
  pub earlier : (t u : ℕ) (image : List ℕ) → t ≤ u → flash.images u image → flash.images t image

-- what holds of every flash of so many blocks
pub record IsFlash (blocks : ℕ) (flash : FlashState) : Type 0 where
  -- what reads return is one of the contents that a restart may leave, and each of these has the
  -- flash's length
  pub may_stay : IfSome flash.bytes flash.may_leave
  pub sizes : MayLeaveOnly flash (λ content. length content ≡ block_len * blocks)
  -- where the images are known, so is what reads return
  pub bytes_known : IsTrue flash.images_known → IsSome flash.bytes
  pub moments : IsTrue flash.images_known → HasMoments flash

-- a flash as it is made, with these bytes: nothing has happened yet
pub record IsFresh (held : List ℕ) (flash : FlashState) : Type 0 where
  pub bytes : flash.bytes ≡ Some held
  pub images_known : IsTrue flash.images_known
  pub settled : IsSettled flash
  pub programmed : flash.programmed ≡ 0
  pub erased : flash.erased ≡ 0
  pub faults : flash.faults ≡ 0

-- the images of before are as they were
pub record KeepsImages (old new : FlashState) : Type 0 where
  pub keeps : (t : ℕ) (image : List ℕ) → t ≤ old.moment → old.images t image → new.images t image
  pub adds : (t : ℕ) (image : List ℕ) → t ≤ old.moment → new.images t image
      → old.images t image ⊎ new.images old.moment image

-- The flash has gone on.
pub record GoesOn (old new : FlashState) : Type 0 where
  pub later : old.moment ≤ new.moment
  -- bytes are known always or never, and images that aren't known don't become known again
  pub bytes_known : IsSome old.bytes ↔ IsSome new.bytes
  pub images_known : IsTrue new.images_known → IsTrue old.images_known
  pub images : IsTrue new.images_known → KeepsImages old new
  pub programmed : old.programmed ≤ new.programmed
  pub erased : old.erased ≤ new.erased
  pub faults : NeverFalls old.faults new.faults

-- the images since old are these and no others
abbrev pub HasImages : FlashState → FlashState → (List ℕ → Type 0) → Type 0
HasImages old new P =
    IsTrue new.images_known → (image : List ℕ) → new.images old.moment image ↔ P image

-- each image since old has P
abbrev pub LeavesOnly : FlashState → FlashState → (List ℕ → Type 0) → Type 0
LeavesOnly old new P =
    IsTrue new.images_known → (image : List ℕ) → new.images old.moment image → P image

-- each content that a restart may now leave, and might not before, has P
abbrev pub AddsOnly : FlashState → FlashState → (List ℕ → Type 0) → Type 0
AddsOnly old new P = MayLeaveOnly new (λ content. old.may_leave content ⊎ P content)

-- a range that a read may ask for
abbrev pub IsRange : ℕ → ℕ → ℕ → Type 0
IsRange blocks at n = at + n ≤ block_len * blocks

-- a range that a program may be given: 1 to 256 bytes inside one block
pub record IsPiece (blocks at n : ℕ) : Type 0 where
  pub some : 0 < n
  pub at_most : n ≤ piece_len
  pub one_block : at % block_len + n ≤ block_len
  pub inside : at + n ≤ block_len * blocks

-- a read: all is as before
pub record Reads (old new : FlashState) : Type 0 where
  pub time : GoesOn old new
  pub bytes : new.bytes ≡ old.bytes
  pub may_leave : IsSome old.bytes → (content : List ℕ)
      → new.may_leave content ↔ old.may_leave content
  pub images : HasImages old new (λ image. old.bytes ≡ Some image)
  pub programmed : new.programmed ≡ old.programmed
  pub erased : new.erased ≡ old.erased

-- A program or an erase of the range that these bytes fill. A cut inside it leaves any bytes there,
-- and so does a failure. After Ok these bytes stand there, and a restart leaves them.
pub record Changes {E : Type 0} (at : ℕ) (bytes : List ℕ) (old new : FlashState)
    (result : Result Unit E) : Type 0 where
  pub time : GoesOn old new
  pub done : IsTrue (is_ok result)
      → IfSome old.bytes (λ before. new.bytes ≡ Some (patch before at bytes))
  pub settled : IsTrue (is_ok result) → IsSettled new
  pub torn : IfSome old.bytes (λ before. IfSome new.bytes (DiffersIn at (length bytes) before))
  pub may_leave : IfSome old.bytes (λ before. AddsOnly old new (DiffersIn at (length bytes) before))
  pub images : IfSome old.bytes (λ before. HasImages old new (DiffersIn at (length bytes) before))

-- Power on again. Whatever it answers, it leaves one of the contents that it might, and inside the
-- call there are all of these. After Ok what is left lasts.
pub record Restarts {E : Type 0} (old new : FlashState) (result : Result Unit E) : Type 0 where
  pub time : GoesOn old new
  pub bytes : IfSome new.bytes old.may_leave
  pub settled : IsTrue (is_ok result) → IsSettled new
  pub may_leave : MayLeaveOnly new old.may_leave
  pub images : HasImages old new old.may_leave
  pub programmed : new.programmed ≡ old.programmed
  pub erased : new.erased ≡ old.erased

-- a settled flash returns the same after a restart, whatever that answers
abbrev pub SettledStays : FlashState → FlashState → Type 0
SettledStays old new =
    (result : Result Unit Failed) → Restarts old new result → IsSettled old → new.bytes ≡ old.bytes

-- Several calls that touch this range alone: at each moment since old, and whatever a restart
-- leaves that it might not have left before, all outside the range is as it was.
pub record Touches (at n : ℕ) (old new : FlashState) : Type 0 where
  pub time : GoesOn old new
  pub bytes : IfSome old.bytes (λ before. IfSome new.bytes (DiffersIn at n before))
  pub may_leave : IfSome old.bytes (λ before. AddsOnly old new (DiffersIn at n before))
  pub images : IfSome old.bytes (λ before. LeavesOnly old new (DiffersIn at n before))

-- Through any calls since old each content of the flash has P: each image since then, and each
-- content that a restart may leave, of which what reads return is one.
pub record Throughout (P : List ℕ → Type 0) (old new : FlashState) : Type 0 where
  pub time : GoesOn old new
  pub may_leave : MayLeaveOnly new P
  pub images : LeavesOnly old new P
