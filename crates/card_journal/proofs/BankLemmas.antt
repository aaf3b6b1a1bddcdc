-- A bank of a flash, read row by row.
use Rattle.std.proofs.Common.{◌≡◌, ℕ, ◌-◌, ◌*◌, ◌^◌, ◌<◌, ◌≤◌, List, [], ◌∷◌, ◌++◌, length, drop}
use Rattle.std.proofs.Common.{Option, Some, None, IfSome, IsSomeAnd, refl, sym, ◌∙◌, subst, arith}
use Rattle.std.proofs.lemmas.List.{length-take}
use Rattle.card_journal.specs.Next.{IsNext}
use Rattle.card_journal.specs.Read.{BankHolds, IsRowAt, OnlyReads, ReadUpTo}
use Rattle.card_journal.specs.declared.row.Row.{Row}
use Rattle.flash_pages.specs.Bank.{IsPlaceIn, LiesInFlash, bank_bytes, end_of, start_of}
use Rattle.flash_pages.specs.Bytes.{part}
use Rattle.flash_pages.specs.Flash.{FlashState, IsFlash, card_blocks}
use Rattle.flash_pages.specs.Rows.{LiesBefore, RowIs, RowsUpTo}
use Rattle.flash_pages.specs.declared.bank.Bank.{Bank}
use Rattle.flash_pages.specs.declared.row.RowAt.TheVariants.{Open, Overrun}
use Rattle.flash_pages.proofs.Reading.{RowsUpTo-start, bank-end, bank-open, bank-overrun}
use Rattle.flash_pages.proofs.Touched.{GoesOn-refl, GoesOn-trans, LeavesOnly-trans, at_some}
use Rattle.flash_pages.proofs.Touched.{from_each}
use Rattle.record_codec.specs.IsDurable.{IsDurable}
use Rattle.record_codec.specs.Sizes.{Codes}
use Rattle.record_codec.specs.declared.durable.Durable.{Durable}
use Rattle.record_codec.specs.declared.record.Record.{Record}
use Rattle.record_codec.proofs.AgainLemmas.{one_record}
use Rattle.card_journal.proofs.ReadLemmas.{has_next, none_held, read_all, read_more}

pub reads_none : (s : FlashState) → IsFlash card_blocks s → OnlyReads s s
reads_none s lawful = record {
  time = GoesOn-refl s;
  bytes = refl;
  may_leave = λ some content. (λ left. left, λ left. left);
  images = λ says image left. (lawful.moments says).only_now image left;
  programmed = refl;
  erased = refl;
}

pub reads_then : (a b c : FlashState) → IsFlash card_blocks c → OnlyReads a b → OnlyReads b c → OnlyReads a c
reads_then a b c lawful p q = record {
  time = GoesOn-trans card_blocks a b c lawful p.time q.time;
  bytes = q.bytes ∙ p.bytes;
  may_leave = λ some content.
      let first = p.may_leave some content in
      let second = q.may_leave (p.time.bytes_known.0 some) content in
      (λ left. first.0 (second.0 left), λ left. second.1 (first.1 left));
  images = LeavesOnly-trans a b c (λ image. a.bytes ≡ Some image) p.time q.time p.images (λ says image left. sym p.bytes ∙ q.images says image left);
  programmed = q.programmed ∙ p.programmed;
  erased = q.erased ∙ p.erased;
}

small : (bank : Bank) (image : List ℕ) → LiesInFlash card_blocks bank → length (bank_bytes bank image) < 2 ^ 32
small bank image lies = omega (arith, length-take (4096 * bank.blocks) (drop (start_of bank) image), lies)

pub read_start : (bank : Bank) (image : List ℕ) → ReadUpTo bank image None (4096 * bank.first)
read_start bank image =
    let none : start_of bank - start_of bank ≡ 0 = omega arith in
    record {
      bodies = [];
      entries = [];
      upto = subst (RowsUpTo (bank_bytes bank image) []) (sym none) (RowsUpTo-start (bank_bytes bank image));
      codings = tt;
      left = tt;
    }

abbrev pub NoCard : Bank → List ℕ → Type 0
NoCard bank image = (card : Durable) (end : ℕ) → BankHolds bank image card end → ⊥

module _ (bank : Bank) (lies : LiesInFlash card_blocks bank) (start now : FlashState) (reads : OnlyReads start now) (held : Option Durable) (at : ℕ)
    (place : IsPlaceIn bank at) (so_far : IfSome start.bytes (λ image. ReadUpTo bank image held at)) where
  -- what is read now was read so far
  both : (P Q : List ℕ → Type 0) → IfSome now.bytes P → ((image : List ℕ) → ReadUpTo bank image held at → P image → Q image) → IfSome start.bytes Q
  both P Q seen gives = from_each start.bytes Q
      (λ image is. gives image (at_some start.bytes (λ image. ReadUpTo bank image held at) image is so_far)
      (at_some now.bytes P image (reads.bytes ∙ is) seen))

  one_more : (image : List ℕ) (read : ReadUpTo bank image held at) (row : Row) → row.next ≤ end_of bank → IsRowAt bank image at (Some row)
      → RowsUpTo (bank_bytes bank image) (read.bodies ++ row.bytes.items ∷ []) (row.next - start_of bank)
  one_more image read row within is =
      let parts = is.1 in
      let open_at : LiesBefore at (end_of bank) (Open is.0 (length row.bytes.items) row.next) = (parts.3, parts.4, within) in
      let found = bank-open bank at image read.bodies place.from_start place.to_end read.upto is.0 (length row.bytes.items) row.next parts open_at in
      subst (λ (body : List ℕ). RowsUpTo (bank_bytes bank image) (read.bodies ++ body ∷ []) (row.next - start_of bank)) (sym is.2) found.0

  pub overrun_none : IfSome now.bytes (λ image. RowIs at (part at (end_of bank - at) image) Overrun) → IfSome start.bytes (NoCard bank)
  overrun_none seen = both (λ image. RowIs at (part at (end_of bank - at) image) Overrun) (NoCard bank) seen
      (λ image read row card end holds.
      bank-overrun bank at image read.bodies place.from_start place.to_end read.upto holds.bodies (small bank image lies) row holds.rows)

  pub entry_none : (row : Row) → row.next ≤ end_of bank → IfSome now.bytes (λ image. IsRowAt bank image at (Some row))
      → ((entry : Record) → Codes row.bytes.items entry → ⊥) → IfSome start.bytes (NoCard bank)
  entry_none row within seen none = both (λ image. IsRowAt bank image at (Some row)) (NoCard bank) seen
      (λ image read is card end holds.
      let next = has_next bank image (small bank image lies) held at (row.next - start_of bank) row.bytes.items read (one_more image read row within is) card end holds in
      none next.0 next.1)

  pub next_none : (row : Row) (entry : Record) → row.next ≤ end_of bank → IfSome now.bytes (λ image. IsRowAt bank image at (Some row))
      → Codes row.bytes.items entry → ((after : Durable) → IsNext held entry after → ⊥) → IfSome start.bytes (NoCard bank)
  next_none row entry within seen codes none = both (λ image. IsRowAt bank image at (Some row)) (NoCard bank) seen
      (λ image read is card end holds.
      let next = has_next bank image (small bank image lies) held at (row.next - start_of bank) row.bytes.items read (one_more image read row within is) card end holds in
      let same : next.0 ≡ entry = one_record row.bytes.items next.0 entry next.1 codes in
      none next.2.0 (subst (λ (e : Record). IsNext held e next.2.0) same next.2.1))

  pub read_on : (row : Row) (entry : Record) (after : Option Durable) → row.next ≤ end_of bank → IfSome now.bytes (λ image. IsRowAt bank image at (Some row))
      → Codes row.bytes.items entry → IsSomeAnd after (IsNext held entry) → IfSome start.bytes (λ image. ReadUpTo bank image after row.next)
  read_on row entry None within seen codes next = absurd next
  read_on row entry (Some after) within seen codes next =
      both (λ image. IsRowAt bank image at (Some row)) (λ image. ReadUpTo bank image (Some after) row.next) seen
      (λ image read is. read_more bank image held at row.next row.bytes.items entry after read (one_more image read row within is) codes next)

module _ (bank : Bank) (lies : LiesInFlash card_blocks bank) (start now : FlashState) (reads : OnlyReads start now) (at : ℕ) (place : IsPlaceIn bank at)
    (seen : IfSome now.bytes (λ image. IsRowAt bank image at None)) where
  pub end_none : IfSome start.bytes (λ image. ReadUpTo bank image None at) → IfSome start.bytes (NoCard bank)
  end_none so_far = both bank lies start now reads None at place so_far (λ image. IsRowAt bank image at None) (NoCard bank) seen
      (λ image read row card end holds.
      none_held bank image (small bank image lies) at read (bank-end bank at image read.bodies place.from_start place.to_end read.upto row) card end holds)

  pub end_found : (card : Durable) → IfSome start.bytes (λ image. ReadUpTo bank image (Some card) at) → IfSome start.bytes (λ image. BankHolds bank image card at)
  end_found card so_far =
      both bank lies start now reads (Some card) at place so_far (λ image. IsRowAt bank image at None) (λ image. BankHolds bank image card at) seen
      (λ image read row. read_all bank image card at read (bank-end bank at image read.bodies place.from_start place.to_end read.upto row))

-- what a card holds one record later is what a card may hold
pub next_valid : (held : Option Durable) (entry : Record) (after : Option Durable) → IfSome held IsDurable → IsSomeAnd after (IsNext held entry)
    → IfSome after IsDurable
next_valid held entry None valid next = absurd next
next_valid None entry (Some after) valid next = next.valid
next_valid (Some held) entry (Some after) valid next = subst IsDurable (sym next.2) next.1.after
