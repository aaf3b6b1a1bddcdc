-- What is read when a store is opened.
use Rattle.std.proofs.Common.{◌≡◌, ◌≢◌, ◌↔◌, ℕ, ◌+◌, ◌-◌, ◌*◌, ◌<◌, ◌≤◌, Bool, IsTrue, List, []}
use Rattle.std.proofs.Common.{length, take, drop, slice_index, Option, Some, None, is_none, IfSome}
use Rattle.std.proofs.Common.{EachIndex, get_or, refl, sym, ◌∙◌, ap, subst, arith}
use Rattle.std.proofs.lemmas.Bool.{false≢true}
use Rattle.std.proofs.lemmas.List.{get_or-drop, get_or-replicate, get_or-take, length-take}
use Rattle.std.proofs.lemmas.List.{take-take, take_at}
use Rattle.flash_pages.specs.Bank.{IsPlaceIn, bank_bytes, end_of, start_of}
use Rattle.flash_pages.specs.Bytes.{IsErased, blank, part}
use Rattle.flash_pages.specs.Flash.{FlashState, IsFlash, Reads, card_blocks}
use Rattle.flash_pages.specs.Rows.{HasRows, RowsUpTo, open_rows}
use Rattle.flash_pages.specs.Switch.{live_of}
use Rattle.flash_pages.specs.declared.bank.Bank.{Bank}
use Rattle.flash_pages.proofs.BlankBehind.{bank-blank, bank-erased, blank-more}
use Rattle.flash_pages.proofs.Patches.{blank_from_each}
use Rattle.flash_pages.proofs.Touched.{at_some, flash_size, from_each}
use Rattle.record_codec.specs.declared.durable.Durable.{Durable}
use Rattle.card_journal.specs.Image.{HoldsCard, bank_of, switch_row}
use Rattle.card_journal.specs.Made.{FirstUsedIs}
use Rattle.card_journal.specs.Read.{BankHolds, OnlyReads}
use Rattle.card_journal.specs.Stored.{EndsClean}

pub only_reads : (a b : FlashState) → Reads a b → OnlyReads a b
only_reads a b reads = record {
  time = reads.time;
  bytes = reads.bytes;
  may_leave = reads.may_leave;
  images = λ says image left. (reads.images says image).0 left;
  programmed = reads.programmed;
  erased = reads.erased;
}

-- behind the rows of a bank all is erased
pub ends_erased : (held : Durable) (live end : ℕ) (image : List ℕ) → live < 2 → IsPlaceIn (bank_of live) end → length image ≡ 4096 * card_blocks
    → EndsClean held live end image → IsErased end (end_of (bank_of live) - end) image
ends_erased held live end image below place size ends =
    bank-erased (bank_of live) end image ends.bodies place.from_start (omega (arith, size, below)) ends.rows (end_of (bank_of live) - end)
    (omega (arith, place.to_end))

-- the card that the live bank holds is the one that the image holds
pub bank_card : (held : Durable) (live end : ℕ) (image : List ℕ) → live ≡ live_of (switch_row image) → BankHolds (bank_of live) image held end
    → HoldsCard image held
bank_card held live end image live_is holds = record {
  bodies = holds.bodies;
  entries = holds.entries;
  rows = subst (λ (k : ℕ). HasRows (bank_bytes (bank_of k) image) holds.bodies) live_is holds.rows;
  codings = holds.codings;
  left = holds.left;
}

pub card_bank : (held : Durable) (live : ℕ) (image : List ℕ) → live ≡ live_of (switch_row image) → HoldsCard image held
    → (end : ℕ) × BankHolds (bank_of live) image held end
card_bank held live image live_is holds =
    let size : ℕ = length (open_rows holds.bodies) in (
      start_of (bank_of live) + size,
      record {
        bodies = holds.bodies;
        entries = holds.entries;
        rows = subst (λ (k : ℕ). HasRows (bank_bytes (bank_of k) image) holds.bodies) (sym live_is) holds.rows;
        codings = holds.codings;
        left = holds.left;
        end = omega arith;
      },
    )

rows_up_to : (place : ℕ) (bytes : List ℕ) (bodies : List (List ℕ)) → HasRows bytes bodies → place ≡ length (open_rows bodies)
    → RowsUpTo bytes bodies place
rows_up_to place bytes bodies rows is = record {
  end = is;
  rows = ap (take place) rows.1 ∙ take_at (open_rows bodies) rows.0 place (sym is);
}

-- its rows end clean exactly where all behind them is erased
pub ends_clean : (held : Durable) (live end : ℕ) (image : List ℕ) (is_clean : Bool) → live < 2 → IsPlaceIn (bank_of live) end
    → length image ≡ 4096 * card_blocks → live ≡ live_of (switch_row image) → BankHolds (bank_of live) image held end
    → IsTrue is_clean ↔ IsErased end (end_of (bank_of live) - end) image → IsTrue is_clean ↔ EndsClean held live end image
ends_clean held live end image is_clean below place size live_is holds both = (
  λ says. record {
    live_is = live_is;
    bodies = holds.bodies;
    entries = holds.entries;
    rows = bank-blank (bank_of live) end image holds.bodies place.from_start place.to_end (omega (arith, size, below))
        (rows_up_to (end - start_of (bank_of live)) (bank_bytes (bank_of live) image) holds.bodies holds.rows holds.end) (both.0 says);
    codings = holds.codings;
    left = holds.left;
  },
  λ ends. both.1 (ends_erased held live end image below place size ends),
)

blank_at : (m k : ℕ) → k < m → get_or (blank m) k 0 ≡ 255
unfolding blank
blank_at m k below = get_or-replicate m k 255 0 below

-- pieces, one after another
module _ (a b : FlashState) (from at n : ℕ) (piece : List ℕ) (reads : OnlyReads a b) (behind : from ≤ at) (long : length piece ≡ n)
    (read : IfSome b.bytes (λ bytes. piece ≡ part at n bytes)) (so_far : IfSome a.bytes (IsErased from (at - from))) where
  piece_is : (image : List ℕ) → a.bytes ≡ Some image → piece ≡ part at n image
  piece_is image is = at_some b.bytes (λ bytes. piece ≡ part at n bytes) image (reads.bytes ∙ is) read

  pub piece_blank : EachIndex piece (λ k. slice_index piece k ≡ 255) → IfSome a.bytes (IsErased from ((at + n) - from))
  piece_blank each = from_each a.bytes _ (λ image is.
      let here : from + (at - from) ≡ at = omega arith in
      let next : (at - from) + n ≡ (at + n) - from = omega arith in
      let its : part at n image ≡ blank n = sym (piece_is image is) ∙ blank_from_each piece each ∙ ap blank long in
      let there : part (from + (at - from)) n image ≡ blank n = ap (λ (k : ℕ). part k n image) here ∙ its in
      subst (λ (k : ℕ). IsErased from k image) next
      (blank-more from (at - from) n image (at_some a.bytes (IsErased from (at - from)) image is so_far) there))

  out_piece : (place : ℕ) → place < n → (image : List ℕ) → a.bytes ≡ Some image → get_or piece place 0 ≡ get_or image (at + place) 0
  out_piece place inside image is =
      ap (λ (l : List ℕ). get_or l place 0) (piece_is image is) ∙ get_or-take n (drop at image) place 0 inside ∙ get_or-drop at image place 0

  pub piece_used : (place to : ℕ) → place < length piece → at + n ≤ to → slice_index piece place ≢ 255
      → ((k : ℕ) → k < place → slice_index piece k ≡ 255) → IfSome a.bytes (FirstUsedIs from to (Some (at + place)))
  piece_used place to inside within used before = from_each a.bytes _ (λ image is.
      let here : from + (at - from) ≡ at = omega arith in
      let next : (at - from) + place ≡ (at + place) - from = omega arith in
      let short : length (take place piece) ≡ place = omega (arith, length-take place piece) in
      let front : take place piece ≡ blank place =
      blank_from_each (take place piece)
      (λ k below. let le : k < place = omega arith in get_or-take place piece k 0 le ∙ before k le) ∙ ap blank short in
      let its : part at place image ≡ blank place =
      sym (take-take place n (drop at image) (omega arith)) ∙ sym (ap (take place) (piece_is image is)) ∙ front in
      let there : part (from + (at - from)) place image ≡ blank place = ap (λ (k : ℕ). part k place image) here ∙ its in (
        omega arith,
        record {
          behind = omega arith;
          blank = subst (λ (k : ℕ). IsErased from k image) next
              (blank-more from (at - from) place image (at_some a.bytes (IsErased from (at - from)) image is so_far) there);
          used = λ is_ff. used (out_piece place (omega arith) image is ∙ is_ff);
        },
      ))

-- all pieces were erased
pub all_blank : (a : FlashState) (from at to : ℕ) → to ≤ at → at ≤ to → IfSome a.bytes (IsErased from (at - from))
    → IfSome a.bytes (FirstUsedIs from to None)
all_blank a from at to above below so_far = from_each a.bytes _ (λ image is.
    let same : at ≡ to = omega arith in
    subst (λ (k : ℕ). IsErased from (k - from) image) same (at_some a.bytes (IsErased from (at - from)) image is so_far))

-- where there is no first byte that isn't FF, all is erased
first_or_erased : (from to : ℕ) (used : Option ℕ) (image : List ℕ) → FirstUsedIs from to used image
    → IsTrue (is_none used) ↔ IsErased from (to - from) image
first_or_erased from to None image erased = (λ says. erased, λ holds. refl)
first_or_erased from to (Some place) image first = (
  λ says. absurd (false≢true says),
  λ erased. absurd (
      let behind = first.1.behind in
      let below = first.0 in
      let in_range : place - from < to - from = omega arith in
      let here : from + (place - from) ≡ place = omega arith in
      first.1.used
      (ap (λ (k : ℕ). get_or image k 0) (sym here) ∙ sym (get_or-drop from image (place - from) 0)
      ∙ sym (get_or-take (to - from) (drop from image) (place - from) 0 in_range)
      ∙ ap (λ (l : List ℕ). get_or l (place - from) 0) erased ∙ blank_at (to - from) (place - from) in_range)),
)

pub erased_where : (s : FlashState) (from to : ℕ) (used : Option ℕ) → IfSome s.bytes (FirstUsedIs from to used)
    → IfSome s.bytes (λ image. IsTrue (is_none used) ↔ IsErased from (to - from) image)
erased_where s from to used first =
    from_each s.bytes _ (λ image is. first_or_erased from to used image (at_some s.bytes (FirstUsedIs from to used) image is first))

-- nothing is read before the first piece
nothing : [] ≡ blank 0
unfolding blank
nothing = refl

pub none_blank : (s : FlashState) (from : ℕ) → IfSome s.bytes (IsErased from (from - from))
none_blank s from =
    let none : from - from ≡ 0 = omega arith in
    from_each s.bytes _ (λ bytes is. subst (λ (n : ℕ). IsErased from n bytes) (sym none) nothing)

-- the live bank was read
module _ (start read : FlashState) (bank : Bank) (live : ℕ) (reads : Reads start read) (bank_is : bank ≡ bank_of live)
    (live_is : IfSome start.bytes (λ bytes. live ≡ live_of (switch_row bytes))) where
  seen : (P : List ℕ → Type 0) → IfSome read.bytes P → (image : List ℕ) → start.bytes ≡ Some image → P image
  seen P here image is = at_some read.bytes P image (reads.bytes ∙ is) here

  live_at : (image : List ℕ) → start.bytes ≡ Some image → live ≡ live_of (switch_row image)
  live_at image is = at_some start.bytes (λ bytes. live ≡ live_of (switch_row bytes)) image is live_is

  pub found_holds : (held : Durable) (end : ℕ) → IfSome read.bytes (λ image. BankHolds bank image held end) → IfSome start.bytes (λ image. HoldsCard image held)
  found_holds held end found = from_each start.bytes _ (λ image is.
      bank_card held live end image (live_at image is)
      (subst (λ (b : Bank). BankHolds b image held end) bank_is (seen (λ i. BankHolds bank i held end) found image is)))

  pub none_found : IfSome read.bytes (λ image. (held : Durable) (end : ℕ) → BankHolds bank image held end → ⊥)
      → IfSome start.bytes (λ image. (held : Durable) → HoldsCard image held → ⊥)
  none_found none = from_each start.bytes _ (λ image is held holds.
      let there = card_bank held live image (live_at image is) holds in
      seen (λ i. (held : Durable) (end : ℕ) → BankHolds bank i held end → ⊥) none image is held there.0
      (subst (λ (b : Bank). BankHolds b image held there.0) (sym bank_is) there.1))

  pub found_clean : (mid : FlashState) → IsFlash card_blocks start → OnlyReads read mid → (held : Durable) (end : ℕ) (is_clean : Bool) → live < 2
      → IsPlaceIn bank end → IfSome read.bytes (λ image. BankHolds bank image held end)
      → IfSome mid.bytes (λ image. IsTrue is_clean ↔ IsErased end (end_of bank - end) image)
      → IfSome start.bytes (λ image. IsTrue is_clean ↔ EndsClean held live end image)
  found_clean mid lawful more held end is_clean below place found both = from_each start.bytes _ (λ image is.
      let its : IsTrue is_clean ↔ IsErased end (end_of bank - end) image =
      at_some mid.bytes (λ i. IsTrue is_clean ↔ IsErased end (end_of bank - end) i) image (more.bytes ∙ reads.bytes ∙ is) both in
      ends_clean held live end image is_clean below (subst (λ (b : Bank). IsPlaceIn b end) bank_is place)
      (flash_size card_blocks start lawful image is) (live_at image is)
      (subst (λ (b : Bank). BankHolds b image held end) bank_is (seen (λ i. BankHolds bank i held end) found image is))
      (subst (λ (b : Bank). IsTrue is_clean ↔ IsErased end (end_of b - end) image) bank_is its))
