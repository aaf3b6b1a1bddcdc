-- What is read of a bank, row by row.
use Rattle.std.specs.Prelude.{ℕ, ◌≡◌, ◌↔◌, ◌-◌, List, length, Option, Some, None, IsSome}
use Rattle.flash_pages.specs.Bank.{bank_bytes, end_of, start_of}
use Rattle.flash_pages.specs.Bytes.{part}
use Rattle.flash_pages.specs.Flash.{FlashState, GoesOn, LeavesOnly}
use Rattle.flash_pages.specs.Rows.{HasRows, RowIs, RowsUpTo, open_rows}
use Rattle.flash_pages.specs.declared.bank.Bank.{Bank}
use Rattle.flash_pages.specs.declared.row.RowAt.TheVariants.{Open, End}
use Rattle.card_journal.specs.Image.{AreCodings, Leave}
use Rattle.card_journal.specs.Next.{LeaveSoFar}
use Rattle.card_journal.specs.declared.row.Row.{Row}
use Rattle.record_codec.specs.declared.durable.Durable.{Durable}
use Rattle.record_codec.specs.declared.record.Record.{Record}

-- the open rows of the bank are the codings of records that leave this, and they end at this place
pub record BankHolds (bank : Bank) (image : List ℕ) (held : Durable) (at : ℕ) : Type 0 where
  pub bodies : List (List ℕ)
  pub entries : List Record
  pub rows : HasRows (bank_bytes bank image) bodies
  pub codings : AreCodings bodies entries
  pub left : Leave entries held
  pub end : at - start_of bank ≡ length (open_rows bodies)

-- the rows of the bank up to this place are the codings of records that leave this
pub record ReadUpTo (bank : Bank) (image : List ℕ) (held : Option Durable) (at : ℕ) : Type 0 where
  pub bodies : List (List ℕ)
  pub entries : List Record
  pub upto : RowsUpTo (bank_bytes bank image) bodies (at - start_of bank)
  pub codings : AreCodings bodies entries
  pub left : LeaveSoFar entries held

-- what stands at the place: an end, or an open row with this body and the next place behind it
abbrev pub IsRowAt : Bank → List ℕ → ℕ → Option Row → Type 0
IsRowAt bank image at None = RowIs at (part at (end_of bank - at) image) End
IsRowAt bank image at (Some row) =
    (place : ℕ) × RowIs at (part at (end_of bank - at) image)
    (Open place (length row.bytes.items) row.next)
    × (row.bytes.items ≡ part place (length row.bytes.items) image)

-- nothing but reads: each image since then is what reads returned, and return, and a restart may
-- leave what it might
pub record OnlyReads (old new : FlashState) : Type 0 where
  pub time : GoesOn old new
  pub bytes : new.bytes ≡ old.bytes
  pub may_leave : IsSome old.bytes → (content : List ℕ)
      → new.may_leave content ↔ old.may_leave content
  pub images : LeavesOnly old new (λ image. old.bytes ≡ Some image)
  pub programmed : new.programmed ≡ old.programmed
  pub erased : new.erased ≡ old.erased
