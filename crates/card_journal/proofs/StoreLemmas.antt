-- What a store keeps, from call to call.
use Rattle.std.proofs.Common.{Bool, IsTrue, ◌↔◌, IsSome, drop, ◌^◌, ◌≡◌, ◌⊎◌, inl, inr, ⊎_elim, ℕ}
use Rattle.std.proofs.Common.{◌+◌, ◌-◌, ◌*◌, ◌<◌, ◌≤◌, List, length, Option, Some, None, IfSome}
use Rattle.std.proofs.Common.{Result, Ok, Err, IfOk, OnOk, refl, sym, ◌∙◌, subst, arith}
use Rattle.std.specs.Prelude.{unwrap_or}
use Rattle.flash_pages.specs.Append.{AppendsRow}
use Rattle.flash_pages.specs.Bank.{IsPlaceIn, end_of, start_of}
use Rattle.flash_pages.specs.Bytes.{IsErased, blank, part, patch}
use Rattle.std.proofs.lemmas.Bool.{false≢true}
use Rattle.std.proofs.lemmas.List.{length-take}
use Rattle.flash_pages.specs.Flash.{FlashState, GoesOn, IsFlash, IsSettled, MayLeaveOnly, Restarts}
use Rattle.flash_pages.specs.Flash.{Throughout, card_blocks}
use Rattle.flash_pages.specs.Switch.{live_of}
use Rattle.flash_pages.specs.Rows.{row_of}
use Rattle.flash_pages.proofs.Patches.{DiffersIn-patch, part-blank, part_outside}
use Rattle.flash_pages.proofs.RowLemmas.{length-row_of}
use Rattle.flash_pages.proofs.Throughout.{MayLeaveOnly-bytes, MayLeaveOnly-settled}
use Rattle.flash_pages.proofs.Throughout.{MayLeaveOnly-weaken, Throughout-begin, Throughout-restart}
use Rattle.flash_pages.proofs.Throughout.{Throughout-trans, Throughout-weaken}
use Rattle.flash_pages.proofs.Touched.{GoesOn-trans, LeavesOnly-trans, at_some, flash_size}
use Rattle.flash_pages.proofs.Touched.{from_each, known, known_before, same_some}
use Rattle.record_codec.specs.Apply.{apply}
use Rattle.record_codec.specs.declared.durable.Durable.{Durable}
use Rattle.record_codec.specs.declared.record.Record.{Record}
use Rattle.card_journal.specs.Image.{HoldsCard, bank_of, live_bytes, switch_row}
use Rattle.card_journal.proofs.AppendLemmas.{holds_card}
use Rattle.card_journal.proofs.ImageLemmas.{one_card}
use Rattle.card_journal.specs.StoreState.{Commits, KeepsCard, StoreState}
use Rattle.card_journal.specs.Read.{OnlyReads}
use Rattle.card_journal.specs.Stored.{EndsClean, HoldsEither, HoldsWith, IsStored}
use Rattle.card_journal.specs.CardStoreState.{IsHeldWith}
use Rattle.card_journal.proofs.OpenLemmas.{ends_erased}

-- of erased bytes the first few
pub first_erased : (at n : ℕ) (more : ℕ) (image : List ℕ) → n ≤ more → IsErased at more image → IsErased at n image
first_erased at n more image le erased =
    let here : at + 0 ≡ at = omega arith in
    subst (λ (k : ℕ). part k n image ≡ blank n) here (part-blank at more 0 n image (omega arith) erased)

-- behind an appended row the rest is as erased as it was
pub rest_erased : {T E : Type 0} (a c : FlashState) (at to : ℕ) (body : List ℕ) (result : Result T E) → IsFlash card_blocks a
    → at + 5 + length body ≤ to → to ≤ 4096 * card_blocks → IfSome a.bytes (IsErased at (to - at)) → AppendsRow at body a c result
    → OnOk result (IfSome c.bytes (IsErased (at + 5 + length body) (to - (at + 5 + length body))))
rest_erased a c at to body (Err e) lawful fits inside erased appends = tt
rest_erased a c at to body (Ok x) lawful fits inside erased appends = from_each c.bytes _ (λ now is_now.
    let was = known_before a c appends.touches.time now is_now in
    let size = flash_size card_blocks a lawful was.0 was.1 in
    let long = length-row_of body in
    let next : ℕ = at + 5 + length body in
    let patched = at_some a.bytes (λ l. c.bytes ≡ Some (patch l at (row_of body))) was.0 was.1 appends.done in
    let before : IsErased at (to - at) was.0 = at_some a.bytes (IsErased at (to - at)) was.0 was.1 erased in
    let there : at + (5 + length body) ≡ next = omega arith in
    let tail : part next (to - next) was.0 ≡ blank (to - next)
    = subst (λ (k : ℕ). part k (to - next) was.0 ≡ blank (to - next)) there
    (part-blank at (to - at) (5 + length body) (to - next) was.0 (omega arith) before) in
    let same : part next (to - next) (patch was.0 at (row_of body)) ≡ part next (to - next) was.0
    = part_outside at (length (row_of body)) was.0 (patch was.0 at (row_of body)) (DiffersIn-patch was.0 at (row_of body) (omega (arith, size, long)))
    next (to - next) (inr (omega (arith, long))) in
    subst (IsErased next (to - next)) (same_some (patch was.0 at (row_of body)) now (sym patched ∙ is_now)) (same ∙ tail))

pub some_first_erased : (s : FlashState) (at n more : ℕ) → n ≤ more → IfSome s.bytes (IsErased at more) → IfSome s.bytes (IsErased at n)
some_first_erased s at n more le erased = from_each s.bytes _ (λ image is.
    first_erased at n more image le (at_some s.bytes (IsErased at more) image is erased))

-- where no record is unrepaired, what is kept is stored
pub stored_of : (flash : FlashState) (held : Durable) (unrepaired : Option Record) (live end : ℕ) → unrepaired ≡ None
    → IfSome flash.bytes (EndsClean held live end) → MayLeaveOnly flash (HoldsWith held unrepaired) → IsStored flash held live end
stored_of flash held unrepaired live end none ends kept = record {
  bytes = ends;
  may_leave = subst (λ (o : Option Record). MayLeaveOnly flash (HoldsWith held o)) none kept;
}

-- and what may be left is kept
pub kept_of : (flash : FlashState) (held after : Durable) (unrepaired : Option Record) → unrepaired ≡ None → after ≡ held
    → MayLeaveOnly flash (λ content. HoldsCard content held) → MayLeaveOnly flash (HoldsWith after unrepaired)
kept_of flash held after unrepaired none same may_leave =
    subst (λ (o : Option Record). MayLeaveOnly flash (HoldsWith after o)) (sym none)
    (subst (λ (d : Durable). MayLeaveOnly flash (HoldsWith d None)) (sym same) may_leave)

-- what is held with the unrepaired record is one of two cards
pub either_of : (held : Durable) (unrepaired : Option Record) → (other : Durable)
    × ((image : List ℕ) → HoldsWith held unrepaired image → HoldsEither held other image)
    × ((image : List ℕ) → HoldsEither held other image → HoldsWith held unrepaired image)
either_of held None = (held, λ image holds. inl holds, λ image either. ⊎_elim (λ holds. holds) (λ holds. holds) either)
either_of held (Some entry) = (apply held entry, λ image holds. holds, λ image either. either)

-- over a call that keeps either of two cards, as a switch and a restart do
pub either_throughout : (a b : FlashState) (held : Durable) (unrepaired : Option Record) → MayLeaveOnly a (HoldsWith held unrepaired)
    → ((other : Durable) → MayLeaveOnly a (HoldsEither held other) → Throughout (HoldsEither held other) a b)
    → Throughout (HoldsWith held unrepaired) a b
either_throughout a b held unrepaired kept over =
    let both = either_of held unrepaired in
    Throughout-weaken a b (HoldsEither held both.0) (HoldsWith held unrepaired) both.2
    (over both.0 (MayLeaveOnly-weaken a (HoldsWith held unrepaired) (HoldsEither held both.0) both.1 kept))

-- after a failure the record of before is unrepaired, or this one
pub failed_kept : (a b : FlashState) (held : Durable) (unrepaired : Option Record) (copy : Record) → Throughout (HoldsWith held unrepaired) a b
    → MayLeaveOnly b (HoldsWith held (Some (unwrap_or unrepaired copy)))
failed_kept a b held None copy through =
    MayLeaveOnly-weaken b (HoldsWith held None) (HoldsWith held (Some copy)) (λ image holds. inl holds) through.may_leave
failed_kept a b held (Some entry) copy through = through.may_leave

pub failed_is : (unrepaired : Option Record) (copy : Record) → (Some (unwrap_or unrepaired copy) ≡ unrepaired) ⊎ (Some (unwrap_or unrepaired copy) ≡ Some copy)
failed_is None copy = inr refl
failed_is (Some entry) copy = inl refl

-- a flash that was only read keeps what it kept, and ends as it did
pub reads_kept : (a b : FlashState) (P : List ℕ → Type 0) → OnlyReads a b → MayLeaveOnly a P → MayLeaveOnly b P
reads_kept a b P reads kept some content left =
    let was = reads.time.bytes_known.1 some in kept was content ((reads.may_leave was content).0 left)

pub reads_ends : (a b : FlashState) (P : List ℕ → Type 0) → OnlyReads a b → IfSome a.bytes P → IfSome b.bytes P
reads_ends a b P reads ends = from_each b.bytes _ (λ image is. at_some a.bytes P image (sym reads.bytes ∙ is) ends)

-- where it ends clean, the rest of the live bank is erased
pub clean_erased : (s : FlashState) (held : Durable) (live end : ℕ) → IsFlash card_blocks s → live < 2 → IsPlaceIn (bank_of live) end
    → IfSome s.bytes (EndsClean held live end) → IfSome s.bytes (IsErased end (end_of (bank_of live) - end))
clean_erased s held live end lawful below place ends = from_each s.bytes _ (λ image is.
    ends_erased held live end image below place (flash_size card_blocks s lawful image is) (at_some s.bytes (EndsClean held live end) image is ends))

with_card : (held : Durable) (unrepaired : Option Record) (image : List ℕ) → HoldsCard image held → HoldsWith held unrepaired image
with_card held None image holds = holds
with_card held (Some entry) image holds = inl holds

-- a commit that was refused before its row was written
pub commits_failed : (old new : StoreState) (entry : Record) → Throughout (HoldsWith old.held old.unrepaired) old.flash new.flash → KeepsCard new
    → Commits old new entry
commits_failed old new entry through kept = record { images = λ says image left. inl (through.images says image left); keeps = kept }

-- a commit whose row was written, or torn
pub commits_row : (old mid new : StoreState) (entry : Record) → mid.held ≡ old.held → Throughout (HoldsWith old.held old.unrepaired) old.flash mid.flash
    → Throughout (HoldsWith mid.held (Some entry)) mid.flash new.flash → KeepsCard new → Commits old new entry
commits_row old mid new entry same first second kept =
    let Q : List ℕ → Type 0 = λ image. HoldsWith old.held old.unrepaired image ⊎ HoldsCard image (apply old.held entry) in
    record {
      images = LeavesOnly-trans old.flash mid.flash new.flash Q first.time second.time (λ says image left. inl (first.images says image left))
          (λ says image left.
          let either : HoldsWith old.held (Some entry) image =
          subst (λ (d : Durable). HoldsWith d (Some entry) image) same (second.images says image left) in
          ⊎_elim (λ holds. inl (with_card old.held old.unrepaired image holds)) (λ holds. inr holds) either);
      keeps = kept;
    }

-- of a settled flash that ends clean a restart leaves what it holds, also after reads
pub open_kept : (a b : FlashState) (held : Durable) (live end : ℕ) → OnlyReads a b → IsSettled a → IfSome a.bytes (EndsClean held live end)
    → MayLeaveOnly b (λ content. HoldsCard content held)
open_kept a b held live end reads settled clean = reads_kept a b (λ content. HoldsCard content held) reads
    (MayLeaveOnly-settled a (λ content. HoldsCard content held) settled
    (from_each a.bytes _ (λ image is. holds_card held live end image (at_some a.bytes (EndsClean held live end) image is clean))))

swapped : (one other : Durable) (content : List ℕ) → HoldsEither one other content → HoldsEither other one content
swapped one other content either = ⊎_elim (λ holds. inr holds) (λ holds. inl holds) either

-- over reads
pub only_throughout : (a b : FlashState) (P : List ℕ → Type 0) → IsFlash card_blocks a → OnlyReads a b → MayLeaveOnly a P → Throughout P a b
only_throughout a b P lawful reads each = record {
  time = reads.time;
  may_leave = λ some content left.
      let was = reads.time.bytes_known.1 some in each was content ((reads.may_leave was content).0 left);
  images = λ says image left. MayLeaveOnly-bytes card_blocks a P lawful each image (reads.images says image left);
}

short_part : (at n : ℕ) (image : List ℕ) → n ≤ 4980736 → length (part at n image) < 2 ^ 32
short_part at n image le = omega (arith, le, length-take n (drop at image))

pub short_live : (image : List ℕ) → length (live_bytes image) < 2 ^ 32
short_live image = short_part (start_of (bank_of (live_of (switch_row image)))) 4980736 image (omega arith)

none_some : (o : Option (List ℕ)) → o ≡ None → IsSome o → ⊥
none_some None is some = false≢true some
none_some (Some image) is some = absurd (cc)

-- where the bytes are known, the card that was read is one of the two that each content may hold
pub card_is : (a : FlashState) (card one other : Durable) → IsFlash card_blocks a → IfSome a.bytes (λ image. HoldsCard image card)
    → MayLeaveOnly a (HoldsEither one other) → (image : List ℕ) → a.bytes ≡ Some image → (card ≡ one) ⊎ (card ≡ other)
card_is a card one other first holds each image is =
    let here : HoldsCard image card = at_some a.bytes (λ i. HoldsCard i card) image is holds in
    ⊎_elim (λ its. inl (one_card image card one (short_live image) here its)) (λ its. inr (one_card image card other (short_live image) here its))
    (MayLeaveOnly-bytes card_blocks a (HoldsEither one other) first each image is)

-- over reads and a switch with the card that was read
module _ (a m b : FlashState) (first : IsFlash card_blocks a) (third : IsFlash card_blocks b) (reads : OnlyReads a m) (time : GoesOn m b)
    (card : Durable) (holds : IfSome a.bytes (λ image. HoldsCard image card))
    (over : (other : Durable) → MayLeaveOnly m (HoldsEither card other) → Throughout (HoldsEither card other) m b) where
  by_card : (one other : Durable) → MayLeaveOnly m (HoldsEither one other) → (card ≡ one) ⊎ (card ≡ other)
      → Throughout (HoldsEither one other) m b
  by_card one other each (inl is) =
      let P : Durable → Type 0 = λ d. (its : Durable) → MayLeaveOnly m (HoldsEither d its) → Throughout (HoldsEither d its) m b in
      subst P is over other each
  by_card one other each (inr is) =
      let P : Durable → Type 0 = λ d. (its : Durable) → MayLeaveOnly m (HoldsEither d its) → Throughout (HoldsEither d its) m b in
      Throughout-weaken m b (HoldsEither other one) (HoldsEither one other) (λ content either. swapped other one content either)
      (subst P is over one (MayLeaveOnly-weaken m (HoldsEither one other) (HoldsEither other one) (λ content either. swapped one other content either) each))

  pub open_throughout : (one other : Durable) → MayLeaveOnly a (HoldsEither one other) → Throughout (HoldsEither one other) a b
  open_throughout one other each = by_bytes a.bytes refl
    where
      by_bytes : (o : Option (List ℕ)) → a.bytes ≡ o → Throughout (HoldsEither one other) a b
      by_bytes None is = record {
        time = GoesOn-trans card_blocks a m b third reads.time time;
        may_leave = λ some content left. absurd (none_some a.bytes is (reads.time.bytes_known.1 (time.bytes_known.1 some)));
        images = λ says image left. absurd (none_some a.bytes is (first.bytes_known (reads.time.images_known (time.images_known says))));
      }
      by_bytes (Some image) is =
          let read = only_throughout a m (HoldsEither one other) first reads each in
          Throughout-trans card_blocks a m b (HoldsEither one other) third read
          (by_card one other read.may_leave (card_is a card one other first holds each image is))

-- a flash that holds one card
pub one_throughout : (a b : FlashState) (held : Durable)
    → ((one other : Durable) → MayLeaveOnly a (HoldsEither one other) → Throughout (HoldsEither one other) a b)
    → MayLeaveOnly a (λ content. HoldsCard content held) → Throughout (λ content. HoldsCard content held) a b
one_throughout a b held over each =
    Throughout-weaken a b (HoldsEither held held) (λ content. HoldsCard content held) (λ content either. ⊎_elim (λ x. x) (λ x. x) either)
    (over held held (MayLeaveOnly-weaken a (λ content. HoldsCard content held) (HoldsEither held held) (λ content its. inl its) each))

-- over a restart of the flash, and calls that keep either of two cards
module _ {E : Type 0} (a m b : FlashState) (first : IsFlash card_blocks a) (second : IsFlash card_blocks m) (third : IsFlash card_blocks b)
    (result : Result Unit E) (restarts : Restarts a m result) where
  pub restart_throughout : (P : List ℕ → Type 0) → MayLeaveOnly a P → Throughout P a m
  restart_throughout P each = Throughout-restart card_blocks a a m P first second (Throughout-begin card_blocks a P first each) result restarts

  pub restart_opened : (card : Durable) → IfSome m.bytes (λ image. HoldsCard image card) → (one other : Durable) → MayLeaveOnly a (HoldsEither one other)
      → IsSome a.bytes → (card ≡ one) ⊎ (card ≡ other)
  restart_opened card holds one other each some =
      let it = known m.bytes (restarts.time.bytes_known.0 some) in
      card_is m card one other second holds (restart_throughout (HoldsEither one other) each).may_leave it.0 it.1

  pub reopen_throughout : (P : List ℕ → Type 0) → MayLeaveOnly a P → (MayLeaveOnly m P → Throughout P m b) → Throughout P a b
  reopen_throughout P each over =
      let through = restart_throughout P each in Throughout-trans card_blocks a m b P third through (over through.may_leave)

-- what was read clean ends so
pub clean_known : (a : FlashState) (held : Durable) (live end : ℕ) (is_clean : Bool) → IsTrue is_clean
    → IfSome a.bytes (λ image. IsTrue is_clean ↔ EndsClean held live end image) → IfSome a.bytes (EndsClean held live end)
clean_known a held live end is_clean says clean = from_each a.bytes _ (λ image is.
    (at_some a.bytes (λ i. IsTrue is_clean ↔ EndsClean held live end i) image is clean).0 says)

-- and still after reads
pub open_ends : (a b : FlashState) (held : Durable) (live end : ℕ) (is_clean : Bool) → OnlyReads a b → IsTrue is_clean
    → IfSome a.bytes (λ image. IsTrue is_clean ↔ EndsClean held live end image) → IfSome b.bytes (EndsClean held live end)
open_ends a b held live end is_clean reads says clean =
    reads_ends a b (EndsClean held live end) reads (clean_known a held live end is_clean says clean)

-- a flash that keeps a card, or that after a record, holds one
held_some : (held : Durable) (unrepaired : Option Record) (image : List ℕ) → HoldsWith held unrepaired image
    → ((other : Durable) → HoldsCard image other → ⊥) → ⊥
held_some held None image holds none = none held holds
held_some held (Some entry) image holds none = ⊎_elim (λ its. none held its) (λ its. none (apply held entry) its) holds

pub never_none : (s : FlashState) (held : Durable) (unrepaired : Option Record) → IsFlash card_blocks s → MayLeaveOnly s (HoldsWith held unrepaired)
    → IfSome s.bytes (λ image. (other : Durable) → HoldsCard image other → ⊥) → IsSome s.bytes → ⊥
never_none s held unrepaired lawful kept none some =
    let it = known s.bytes some in
    held_some held unrepaired it.0 (MayLeaveOnly-bytes card_blocks s (HoldsWith held unrepaired) lawful kept it.0 it.1)
    (at_some s.bytes (λ image. (other : Durable) → HoldsCard image other → ⊥) it.0 it.1 none)

-- what is opened again is held, or is that after the record
pub reopened : (a : FlashState) (held : Durable) (unrepaired : Option Record) (after : Durable) → MayLeaveOnly a (HoldsWith held unrepaired)
    → ((one other : Durable) → MayLeaveOnly a (HoldsEither one other) → IsSome a.bytes → (after ≡ one) ⊎ (after ≡ other))
    → IsSome a.bytes → IsHeldWith held unrepaired after
reopened a held None after kept is some =
    ⊎_elim (λ x. x) (λ x. x) (is held held (MayLeaveOnly-weaken a (HoldsWith held None) (HoldsEither held held) (λ image holds. inl holds) kept) some)
reopened a held (Some entry) after kept is some = is held (apply held entry) kept some

pub on_ok_map : {T E : Type 0} (r : Result T E) (P Q : T → Type 0) → ((x : T) → P x → Q x) → IfOk r P → IfOk r Q
on_ok_map (Ok x) P Q then holds = then x holds
on_ok_map (Err e) P Q then holds = tt

pub on_ok : {T E : Type 0} (r : Result T E) (P Q : Type 0) → OnOk r P → (P → Q) → OnOk r Q
on_ok (Ok x) P Q holds then = then holds
on_ok (Err e) P Q holds then = tt
