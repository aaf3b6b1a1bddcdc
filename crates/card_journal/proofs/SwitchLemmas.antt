-- A switch to the idle bank.
use Rattle.std.proofs.Common.{◌≡◌, ◌≢◌, ◌⊎◌, inl, inr, ℕ, zero, suc, ◌+◌, ◌-◌, ◌*◌, ◌<◌, ◌≤◌}
use Rattle.std.proofs.Common.{IsTrue, is_ok, List, [], ◌∷◌, length, map, slice_index, Option, Some}
use Rattle.std.proofs.Common.{None, IfSome, Result, sym, ◌∙◌, ap, subst, arith}
use Rattle.std.specs.Prelude.{⊤}
use Rattle.std.proofs.lemmas.Bool.{cases_eq}
use Rattle.flash_pages.specs.Append.{EndsBlank}
use Rattle.flash_pages.specs.Bank.{bank_bytes, start_of}
use Rattle.flash_pages.specs.Bytes.{DiffersIn, IsErased, patch}
use Rattle.flash_pages.specs.Flash.{Changes, FlashState, IsFlash, MayLeaveOnly, Reads, Throughout}
use Rattle.flash_pages.specs.Flash.{Touches, card_blocks}
use Rattle.flash_pages.specs.Rows.{HasRows}
use Rattle.flash_pages.specs.Switch.{IsNextByte, SwitchesTo, live_of}
use Rattle.flash_pages.proofs.Patches.{DiffersIn-patch, part-DiffersIn, part-patch, part_outside}
use Rattle.flash_pages.proofs.SwitchByte.{next_erased, one_next_byte, opened_in, switches_in}
use Rattle.flash_pages.proofs.Throughout.{MayLeaveOnly-settled, Throughout-begin, Throughout-change}
use Rattle.flash_pages.proofs.Throughout.{Throughout-read, Throughout-touch}
use Rattle.flash_pages.proofs.Touched.{at_some, flash_size, from_each, known_before, same_some}
use Rattle.record_codec.specs.IsDurable.{IsDurable}
use Rattle.record_codec.specs.Spelling.{spelling}
use Rattle.record_codec.specs.declared.durable.Durable.{Durable}
use Rattle.card_journal.specs.Copy.{HoldsCopy, copy_of}
use Rattle.card_journal.specs.Image.{HoldsCard, bank_of, live_bytes, switch_row}
use Rattle.card_journal.specs.Stored.{EndsClean, HoldsEither, IsStored}
use Rattle.card_journal.specs.Switched.{FromTo, IsSwitched, KeepsSwitchRow, copy_bodies}
use Rattle.card_journal.proofs.AppendLemmas.{holds_card}
use Rattle.card_journal.proofs.CopyRowLemmas.{copy_ends}

-- what is held depends on the live bank alone
same_card : (held : Durable) (before content : List ℕ) → live_bytes content ≡ live_bytes before → HoldsCard before held → HoldsCard content held
same_card held before content same holds = record {
  bodies = holds.bodies;
  entries = holds.entries;
  rows = subst (λ (l : List ℕ). HasRows l holds.bodies) (sym same) holds.rows;
  codings = holds.codings;
  left = holds.left;
}

pub same_live : (one other : Durable) (before content : List ℕ) → live_bytes content ≡ live_bytes before → HoldsEither one other before
    → HoldsEither one other content
same_live one other before content same (inl holds) = inl (same_card one before content same holds)
same_live one other before content same (inr holds) = inr (same_card other before content same holds)

-- over a read
pub read_throughout : (a b : FlashState) (one other : Durable) → IsFlash card_blocks a → IsFlash card_blocks b → Reads a b
    → MayLeaveOnly a (HoldsEither one other) → Throughout (HoldsEither one other) a b
read_throughout a b one other first second reads each =
    let P : List ℕ → Type 0 = HoldsEither one other in
    Throughout-read card_blocks a a b P first second (Throughout-begin card_blocks a P first each) reads

-- a switch row with a next byte isn't used up
pub has_next : (s : FlashState) (next : ℕ) → IfSome s.bytes (λ bytes. IsNextByte (switch_row bytes) (Some next))
    → IfSome s.bytes (λ bytes. IsNextByte (switch_row bytes) None → ⊥)
has_next s next is_next = from_each s.bytes _ (λ bytes is none.
    let some : IsNextByte (switch_row bytes) (Some next) = at_some s.bytes (λ x. IsNextByte (switch_row x) (Some next)) bytes is is_next in
    let same : Some next ≡ None = one_next_byte (switch_row bytes) (Some next) None some none in
    absurd (cc))

-- the two banks lie apart
banks_apart : (live : ℕ) → live < 2 → (start_of (bank_of live) + 4096 * 1216 ≤ start_of (bank_of (1 - live)))
    ⊎ (start_of (bank_of (1 - live)) + 4096 * 1216 ≤ start_of (bank_of live))
banks_apart zero below = inl (omega arith)
banks_apart (suc n) below = inr (omega arith)

module _ (live : ℕ) (before content : List ℕ) (below : live < 2)
    (differs : DiffersIn (start_of (bank_of (1 - live))) (4096 * 1216) before content) where
  -- bytes of the idle bank leave the switch row
  pub same_row : switch_row content ≡ switch_row before
  same_row = part_outside (start_of (bank_of (1 - live))) (4096 * 1216) before content differs 0 4096 (inl (omega arith))

  same_bank : bank_bytes (bank_of live) content ≡ bank_bytes (bank_of live) before
  same_bank = part_outside (start_of (bank_of (1 - live))) (4096 * 1216) before content differs (start_of (bank_of live)) (4096 * 1216) (banks_apart live below)

  -- and the live bank
  pub idle_apart : live ≡ live_of (switch_row before) → live_bytes content ≡ live_bytes before
  idle_apart is =
      let now : live ≡ live_of (switch_row content) = is ∙ ap live_of (sym same_row) in
      ap (λ (k : ℕ). bank_bytes (bank_of k) content) (sym now) ∙ same_bank ∙ ap (λ (k : ℕ). bank_bytes (bank_of k) before) is

-- what comes to stand at the next byte of the switch row, where the idle bank holds the copy
module _ (held : Durable) (are : IsDurable held) (live next end : ℕ) (bytes content : List ℕ) (size : length bytes ≡ 4096 * card_blocks)
    (below : live < 2) (live_is : live ≡ live_of (switch_row bytes)) (next_is : IsNextByte (switch_row bytes) (Some next)) (within : next < 4096)
    (copy : HoldsCopy held (1 - live) end bytes) (differs : DiffersIn next 1 bytes content) where
  there : 4096 * 0 + next ≡ next
  there = omega arith

  to : SwitchesTo (switch_row bytes) (switch_row content) next
  to = switches_in 0 next bytes content next_is (omega (arith, size)) (subst (λ (k : ℕ). DiffersIn k 1 bytes content) (sym there) differs)

  same_behind : (bank : ℕ) → bank_bytes (bank_of bank) content ≡ bank_bytes (bank_of bank) bytes
  same_behind bank = part_outside next 1 bytes content differs (start_of (bank_of bank)) (4096 * 1216) (inr (omega (arith, within)))

  pub opened_ends : slice_index (switch_row content) next ≡ 0 → EndsClean held (1 - live) end content
  opened_ends opened =
      let live_now : 1 - live ≡ live_of (switch_row content) = ap (λ (k : ℕ). 1 - k) live_is ∙ sym (to.flips opened) in
      copy_ends held are (1 - live) end content live_now (record {
        rows = subst (λ (l : List ℕ). EndsBlank l (map spelling (copy_of held)) (end - start_of (bank_of (1 - live)))) (sym (same_behind (1 - live))) copy.rows;
        codings = copy.codings;
      })

  closed_stays : slice_index (switch_row content) next ≢ 0 → live_bytes content ≡ live_bytes bytes
  closed_stays closed =
      ap (λ (k : ℕ). bank_bytes (bank_of k) content) (to.stays closed) ∙ same_behind (live_of (switch_row bytes))

  pub flip_outlives : (other : Durable) → HoldsEither held other bytes → HoldsEither held other content
  flip_outlives other holds =
      elim (cases_eq (slice_index (switch_row content) next) 0) [
        | inl opened ↦ inl (holds_card held (1 - live) end content (opened_ends opened))
        | inr closed ↦ same_live held other bytes content (closed_stays closed) holds
      ]

-- the switch row was read, and the copy was written to the idle bank, or a part of it
pub record WritesCopy (start read copied : FlashState) (live next : ℕ) : Type 0 where
  pub first : IsFlash card_blocks start
  pub second : IsFlash card_blocks read
  pub third : IsFlash card_blocks copied
  pub below : live < 2
  pub within : next < 4096
  pub live_is : IfSome start.bytes (λ bytes. live ≡ live_of (switch_row bytes))
  pub next_is : IfSome start.bytes (λ bytes. IsNextByte (switch_row bytes) (Some next))
  pub reads : Reads start read
  pub touches : Touches (start_of (bank_of (1 - live))) (4096 * 1216) read copied

-- the same by what `read_switch` and `write_copy` return
pub writes_copy : (start read copied : FlashState) (live next : ℕ) (its : Option ℕ) → IsFlash card_blocks start → IsFlash card_blocks read
    → IsFlash card_blocks copied → live < 2 → IfSome its (λ n. n < 4096) → its ≡ Some next
    → IfSome start.bytes (λ bytes. live ≡ live_of (switch_row bytes)) → IfSome start.bytes (λ bytes. IsNextByte (switch_row bytes) its)
    → Reads start read → Touches (start_of (bank_of (1 - live))) (4096 * 1216) read copied → WritesCopy start read copied live next
writes_copy start read copied live next its first second third below within is live_is next_is reads touches = record {
  first = first;
  second = second;
  third = third;
  below = below;
  within = at_some its (λ (n : ℕ). n < 4096) next is within;
  live_is = live_is;
  next_is = subst (λ (o : Option ℕ). IfSome start.bytes (λ bytes. IsNextByte (switch_row bytes) o)) is next_is;
  reads = reads;
  touches = touches;
}

-- where the bytes stay, so does the switch row
pub row_same : (a b : FlashState) (needed : Type 0) → b.bytes ≡ a.bytes → FromTo a b (KeepsSwitchRow needed)
row_same a b needed same = from_each a.bytes _ (λ before is. from_each b.bytes _ (λ after is_after.
    inl (ap switch_row (same_some after before (sym is_after ∙ same ∙ is)))))

module _ (start read copied : FlashState) (live next : ℕ) (writes : WritesCopy start read copied live next) where
  -- the bytes that were read, from which the present ones differ in the idle bank alone
  was_read : (bytes : List ℕ) → copied.bytes ≡ Some bytes
      → (before : List ℕ) × (start.bytes ≡ Some before) × DiffersIn (start_of (bank_of (1 - live))) (4096 * 1216) before bytes
  was_read bytes is =
      let mid = known_before read copied writes.touches.time bytes is in
      let start_is : start.bytes ≡ Some mid.0 = sym writes.reads.bytes ∙ mid.1 in (
        mid.0,
        start_is,
        at_some copied.bytes (DiffersIn (start_of (bank_of (1 - live))) (4096 * 1216) mid.0) bytes is
            (at_some read.bytes (λ x. IfSome copied.bytes (DiffersIn (start_of (bank_of (1 - live))) (4096 * 1216) x)) mid.0 mid.1 writes.touches.bytes),
      )

  row_still : (bytes : List ℕ) → copied.bytes ≡ Some bytes → (live ≡ live_of (switch_row bytes)) × IsNextByte (switch_row bytes) (Some next)
  row_still bytes is =
      let was = was_read bytes is in
      let same = sym (same_row live was.0 bytes writes.below was.2) in (
        at_some start.bytes (λ x. live ≡ live_of (switch_row x)) was.0 was.1 writes.live_is ∙ ap live_of same,
        subst (λ (row : List ℕ). IsNextByte row (Some next)) same
            (at_some start.bytes (λ x. IsNextByte (switch_row x) (Some next)) was.0 was.1 writes.next_is),
      )

  pub next_blank : IfSome copied.bytes (IsErased next 1)
  next_blank = from_each copied.bytes _ (λ bytes is.
      let size = flash_size card_blocks copied writes.third bytes is in
      let here : 4096 * 0 + next ≡ next = omega arith in
      subst (λ (k : ℕ). IsErased k 1 bytes) here (next_erased 0 next bytes (row_still bytes is).1 (omega (arith, size))))

  pub copy_throughout : (held other : Durable) → MayLeaveOnly start (HoldsEither held other) → Throughout (HoldsEither held other) start copied
  copy_throughout held other each =
      let P : List ℕ → Type 0 = HoldsEither held other in
      let first = Throughout-begin card_blocks start P writes.first each in
      let second = Throughout-read card_blocks start start read P writes.first writes.second first writes.reads in
      Throughout-touch card_blocks start read copied P writes.second writes.third second (start_of (bank_of (1 - live))) (4096 * 1216) writes.touches
      (λ bytes content is holds differs.
      let live_is : live ≡ live_of (switch_row bytes) =
      at_some start.bytes (λ x. live ≡ live_of (switch_row x)) bytes (sym writes.reads.bytes ∙ is) writes.live_is in
      same_live held other bytes content (idle_apart live bytes content writes.below differs live_is) holds)

  -- the copy leaves the switch row
  pub copy_row : FromTo start copied (KeepsSwitchRow ⊤)
  copy_row = from_each start.bytes _ (λ before is. from_each copied.bytes _ (λ after is_after.
      let was = was_read after is_after in
      inl (same_row live was.0 after writes.below was.2 ∙ ap switch_row (same_some was.0 before (sym was.1 ∙ is)))))

  module _ {E : Type 0} (held : Durable) (are : IsDurable held) (end : ℕ) (flipped : FlashState) (fourth : IsFlash card_blocks flipped)
      (copy : IfSome copied.bytes (HoldsCopy held (1 - live) end)) (result : Result Unit E) (changes : Changes next (0 ∷ []) copied flipped result) where
    pub flip_throughout : (other : Durable) → MayLeaveOnly start (HoldsEither held other) → Throughout (HoldsEither held other) start flipped
    flip_throughout other each =
        Throughout-change card_blocks start copied flipped (HoldsEither held other) writes.third fourth (copy_throughout held other each) next (0 ∷ []) result changes
        (λ bytes content is holds differs.
        let size = flash_size card_blocks copied writes.third bytes is in
        let row = row_still bytes is in
        flip_outlives held are live next end bytes content size writes.below row.0 row.1 writes.within
        (at_some copied.bytes (HoldsCopy held (1 - live) end) bytes is copy) differs other holds)

    flip_bytes : IsTrue (is_ok result) → IfSome flipped.bytes (EndsClean held (1 - live) end)
    flip_bytes ok = from_each flipped.bytes _ (λ now is_now.
        let mid = known_before copied flipped changes.time now is_now in
        let size = flash_size card_blocks copied writes.third mid.0 mid.1 in
        let row = row_still mid.0 mid.1 in
        let patched = at_some copied.bytes (λ l. flipped.bytes ≡ Some (patch l next (0 ∷ []))) mid.0 mid.1 (changes.done ok) in
        let here : 4096 * 0 + next ≡ next = omega arith in
        let opened : slice_index (switch_row (patch mid.0 next (0 ∷ []))) next ≡ 0 =
        subst (λ (k : ℕ). slice_index (switch_row (patch mid.0 k (0 ∷ []))) next ≡ 0) here
        (opened_in 0 next mid.0 writes.within (omega (arith, size))) in
        let ends = opened_ends held are live next end mid.0 (patch mid.0 next (0 ∷ [])) size writes.below row.0 row.1 writes.within
        (at_some copied.bytes (HoldsCopy held (1 - live) end) mid.0 mid.1 copy)
        (DiffersIn-patch mid.0 next (0 ∷ []) (omega (arith, size, writes.within))) opened in
        subst (EndsClean held (1 - live) end) (same_some (patch mid.0 next (0 ∷ [])) now (sym patched ∙ is_now)) ends)

    pub flip_stored : IsTrue (is_ok result) → IsStored flipped held (1 - live) end
    flip_stored ok = record {
      bytes = flip_bytes ok;
      may_leave = MayLeaveOnly-settled flipped (λ content. HoldsCard content held) (changes.settled ok)
          (from_each flipped.bytes _ (λ now is_now.
          holds_card held (1 - live) end now (at_some flipped.bytes (EndsClean held (1 - live) end) now is_now (flip_bytes ok))));
    }

    -- and the switch byte is the next byte of it
    flip_uses : (before after : List ℕ) → start.bytes ≡ Some before → flipped.bytes ≡ Some after
        → (mid : List ℕ) × (copied.bytes ≡ Some mid) × (switch_row mid ≡ switch_row before)
    flip_uses before after is is_after =
        let mid = known_before copied flipped changes.time after is_after in
        let was = was_read mid.0 mid.1 in (
          mid.0,
          mid.1,
          same_row live was.0 mid.0 writes.below was.2 ∙ ap switch_row (same_some was.0 before (sym was.1 ∙ is)),
        )

    pub flip_row : FromTo start flipped (KeepsSwitchRow ⊤)
    flip_row = from_each start.bytes _ (λ before is. from_each flipped.bytes _ (λ after is_after.
        let mid = flip_uses before after is is_after in
        let size = flash_size card_blocks copied writes.third mid.0 mid.1 in
        let torn : DiffersIn next 1 mid.0 after = at_some flipped.bytes (DiffersIn next 1 mid.0) after is_after
        (at_some copied.bytes (λ x. IfSome flipped.bytes (DiffersIn next 1 x)) mid.0 mid.1 changes.torn) in
        let here : 0 + next ≡ next = omega arith in
        let in_row : DiffersIn next 1 (switch_row mid.0) (switch_row after) =
        part-DiffersIn 0 4096 next 1 (omega (arith, writes.within)) mid.0 after
        (subst (λ (k : ℕ). DiffersIn k 1 mid.0 after) (sym here) torn) in
        inr (
          tt,
          record {
            next = next;
            is_next = at_some start.bytes (λ x. IsNextByte (switch_row x) (Some next)) before is writes.next_is;
            differs = subst (λ (row : List ℕ). DiffersIn next 1 row (switch_row after)) mid.2 in_row;
          },
        )))

    pub flip_switched : IsTrue (is_ok result) → FromTo start flipped (IsSwitched (copy_bodies held) (1 - live) end)
    flip_switched ok = from_each start.bytes _ (λ before is. from_each flipped.bytes _ (λ after is_after.
        let mid = flip_uses before after is is_after in
        let size = flash_size card_blocks copied writes.third mid.0 mid.1 in
        let patched = at_some copied.bytes (λ l. flipped.bytes ≡ Some (patch l next (0 ∷ []))) mid.0 mid.1 (changes.done ok) in
        let after_is : patch mid.0 next (0 ∷ []) ≡ after = same_some (patch mid.0 next (0 ∷ [])) after (sym patched ∙ is_after) in
        let here : 0 + next ≡ next = omega arith in
        let row : switch_row (patch mid.0 (0 + next) (0 ∷ [])) ≡ patch (switch_row mid.0) next (0 ∷ []) =
        part-patch 0 4096 next mid.0 (0 ∷ []) (omega (arith, writes.within)) (omega (arith, size, writes.within)) in
        let differs : DiffersIn next 1 mid.0 (patch mid.0 next (0 ∷ [])) = DiffersIn-patch mid.0 next (0 ∷ []) (omega (arith, size, writes.within)) in
        let behind : bank_bytes (bank_of (1 - live)) (patch mid.0 next (0 ∷ [])) ≡ bank_bytes (bank_of (1 - live)) mid.0 =
        part_outside next 1 mid.0 (patch mid.0 next (0 ∷ [])) differs (start_of (bank_of (1 - live))) (4096 * 1216) (inr (omega (arith, writes.within))) in
        let copy_at : HoldsCopy held (1 - live) end mid.0 = at_some copied.bytes (HoldsCopy held (1 - live) end) mid.0 mid.1 copy in
        subst (λ (l : List ℕ). IsSwitched (copy_bodies held) (1 - live) end before l) after_is (record {
          next = next;
          is_next = at_some start.bytes (λ x. IsNextByte (switch_row x) (Some next)) before is writes.next_is;
          row = ap (λ (k : ℕ). switch_row (patch mid.0 k (0 ∷ []))) (sym here) ∙ row ∙ ap (λ (l : List ℕ). patch l next (0 ∷ [])) mid.2;
          other = ap (λ (k : ℕ). 1 - k) (at_some start.bytes (λ x. live ≡ live_of (switch_row x)) before is writes.live_is);
          rows = subst (λ (l : List ℕ). EndsBlank l (copy_bodies held) (end - start_of (bank_of (1 - live)))) (sym behind) copy_at.rows;
        })))
