-- For the stores above: what each content of the flash has, carried over each call.
use Rattle.std.proofs.Common.{◌≡◌, ◌↔◌, Option, None, refl, inl, inr, ⊎_elim, ℕ, ◌+◌, List, length}
use Rattle.std.proofs.Common.{Some, IsSome, IfSome, Result, sym, ◌∙◌}
use Rattle.std.proofs.lemmas.Bool.{false≢true}
use Rattle.flash_pages.specs.declared.bank.Bank.{Bank}
use Rattle.flash_pages.specs.Append.{IsTornRow, HasRowsOrOneMore, LeavesTornRow, KeepsRows}
use Rattle.flash_pages.specs.Bank.{bank_bytes}
use Rattle.flash_pages.specs.Bytes.{DiffersIn}
use Rattle.flash_pages.specs.Flash.{FlashState, IsFlash, IsSettled, MayLeaveOnly, LeavesOnly}
use Rattle.flash_pages.specs.Flash.{AddsOnly, GoesOn, Reads, Changes, Restarts, Touches, Throughout}
use Rattle.flash_pages.proofs.Touched.{at_some, from_each, known, is_known, GoesOn-refl}
use Rattle.flash_pages.proofs.Touched.{GoesOn-trans, LeavesOnly-trans, Touches-from_changes}

-- what reads return is one of the contents that a restart may leave
pub MayLeaveOnly-bytes : (blocks : ℕ) (s : FlashState) (P : List ℕ → Type 0) → IsFlash blocks s
    → MayLeaveOnly s P
    → (bytes : List ℕ) → s.bytes ≡ Some bytes → P bytes
MayLeaveOnly-bytes blocks s P lawful each bytes is =
    each (is_known s.bytes bytes is) bytes (at_some s.bytes s.may_leave bytes is lawful.may_stay)

-- of a settled flash it is enough to know what reads return
pub MayLeaveOnly-settled : (s : FlashState) (P : List ℕ → Type 0) → IsSettled s → IfSome s.bytes P
    → MayLeaveOnly s P
MayLeaveOnly-settled s P settled here some content left =
    at_some s.bytes P content (settled some content left) here

pub MayLeaveOnly-weaken : (s : FlashState) (P Q : List ℕ → Type 0)
    → ((content : List ℕ) → P content → Q content)
    → MayLeaveOnly s P → MayLeaveOnly s Q
MayLeaveOnly-weaken s P Q then each some content left = then content (each some content left)

-- a settled flash stays settled over a read
pub IsSettled-read : (a b : FlashState) → Reads a b → IsSettled a → IsSettled b
IsSettled-read a b reads settled some content left =
    let before : IsSome a.bytes = reads.time.bytes_known.1 some in
    reads.bytes ∙ settled before content ((reads.may_leave before content).0 left)

-- a settled flash returns the same after a restart, whatever that answers
pub restart_settled : {E : Type 0} (a b : FlashState) (result : Result Unit E) → Restarts a b result
    → IsSettled a
    → b.bytes ≡ a.bytes
restart_settled a b result restarts settled =
    same a.bytes b.bytes restarts.time.bytes_known (λ some content is. settled some content
    (at_some b.bytes a.may_leave content is restarts.bytes))
  where
    same : (o p : Option (List ℕ)) → IsSome o ↔ IsSome p
        → (IsSome o → (content : List ℕ) → p ≡ Some content → o ≡ Some content) → p ≡ o
    same None None both each = refl
    same (Some x) None both each = absurd (false≢true (both.0 refl))
    same None (Some y) both each = absurd (false≢true (both.1 refl))
    same (Some x) (Some y) both each = sym (each refl y refl)

-- before the first call
pub Throughout-begin : (blocks : ℕ) (s : FlashState) (P : List ℕ → Type 0) → IsFlash blocks s
    → MayLeaveOnly s P
    → Throughout P s s
Throughout-begin blocks s P lawful each = record {
  time = GoesOn-refl s;
  may_leave = each;
  images = λ says image left.
      MayLeaveOnly-bytes blocks s P lawful each image ((lawful.moments says).only_now image left);
}

pub Throughout-weaken : (a b : FlashState) (P Q : List ℕ → Type 0)
    → ((content : List ℕ) → P content → Q content)
    → Throughout P a b → Throughout Q a b
Throughout-weaken a b P Q then each = record {
  time = each.time;
  may_leave = MayLeaveOnly-weaken b P Q then each.may_leave;
  images = λ says image left. then image (each.images says image left);
}

-- one run of calls after another
pub Throughout-trans : (blocks : ℕ) (a b c : FlashState) (P : List ℕ → Type 0) → IsFlash blocks c
    → Throughout P a b
    → Throughout P b c → Throughout P a c
Throughout-trans blocks a b c P lawful first second = record {
  time = GoesOn-trans blocks a b c lawful first.time second.time;
  may_leave = second.may_leave;
  images = LeavesOnly-trans a b c P first.time second.time first.images second.images;
}

module _ (blocks : ℕ) (a b c : FlashState) (P : List ℕ → Type 0) (was : IsFlash blocks b)
    (lawful : IsFlash blocks c)
    (before : Throughout P a b) where
  -- P of what reads return
  pub Throughout-bytes : (bytes : List ℕ) → b.bytes ≡ Some bytes → P bytes
  Throughout-bytes bytes is = MayLeaveOnly-bytes blocks b P was before.may_leave bytes is

  -- over a read
  pub Throughout-read : Reads b c → Throughout P a c
  Throughout-read reads =
      Throughout-trans blocks a b c P lawful before (record {
        time = reads.time;
        may_leave = λ some content left.
            let known_then : IsSome b.bytes = reads.time.bytes_known.1 some in
            before.may_leave known_then content ((reads.may_leave known_then content).0 left);
        images = λ says image left. Throughout-bytes image ((reads.images says image).0 left);
      })

  -- over calls that add contents of which each has P
  adds : GoesOn b c → IfSome b.bytes (λ bytes. AddsOnly b c P)
      → IfSome b.bytes (λ bytes. LeavesOnly b c P)
      → Throughout P a c
  adds time may_leave images =
      Throughout-trans blocks a b c P lawful before (record {
        time = time;
        may_leave = λ some content left.
            let then : IsSome b.bytes = time.bytes_known.1 some in
            let held = known b.bytes then in
            ⊎_elim (λ old. before.may_leave then content old) (λ new. new)
            (at_some b.bytes (λ x. AddsOnly b c P) held.0 held.1 may_leave some content left);
        images = λ says image left.
            let held = known b.bytes (was.bytes_known (time.images_known says)) in
            at_some b.bytes (λ x. LeavesOnly b c P) held.0 held.1 images says image left;
      })

  -- over calls that touch a range alone, where P outlives any bytes there
  pub Throughout-touch : (at n : ℕ) → Touches at n b c
      → ((bytes content : List ℕ) → b.bytes ≡ Some bytes → P bytes → DiffersIn at n bytes content
      → P content)
      → Throughout P a c
  Throughout-touch at n touches outlives =
      adds touches.time
      (from_each b.bytes _ (λ bytes is some content left. ⊎_elim (λ old. inl old)
      (λ differs. inr (outlives bytes content is (Throughout-bytes bytes is) differs))
      (at_some b.bytes
      (λ x. AddsOnly b c (DiffersIn at n x)) bytes is touches.may_leave some content left)))
      (from_each b.bytes _ (λ bytes is says image left.
      outlives bytes image is (Throughout-bytes bytes is)
      (at_some b.bytes
      (λ x. LeavesOnly b c (DiffersIn at n x)) bytes is touches.images says image left)))

  -- over a program or an erase
  pub Throughout-change : {E : Type 0} (at : ℕ) (bytes : List ℕ) (result : Result Unit E)
      → Changes at bytes b c result
      → ((held content : List ℕ) → b.bytes ≡ Some held → P held
      → DiffersIn at (length bytes) held content → P content)
      → Throughout P a c
  Throughout-change at bytes result changes outlives =
      Throughout-touch at (length bytes) (Touches-from_changes at bytes b c result changes) outlives

  -- over a restart
  pub Throughout-restart : {E : Type 0} (result : Result Unit E) → Restarts b c result
      → Throughout P a c
  Throughout-restart result restarts =
      Throughout-trans blocks a b c P lawful before (record {
        time = restarts.time;
        may_leave = λ some content left.
            before.may_leave (restarts.time.bytes_known.1 some) content
            (restarts.may_leave some content left);
        images = λ says image left.
            let then : IsSome b.bytes = was.bytes_known (restarts.time.images_known says) in
            before.may_leave then image ((restarts.images says image).0 left);
      })

  -- over an append, where P outlives a torn row
  pub Throughout-append : (at : ℕ) (body : List ℕ) → GoesOn b c → LeavesTornRow at body b c
      → ((bytes content : List ℕ) → b.bytes ≡ Some bytes → P bytes → IsTornRow at body bytes content
      → P content)
      → Throughout P a c
  Throughout-append at body time torn outlives =
      adds time
      (from_each b.bytes _ (λ bytes is some content left. ⊎_elim (λ old. inl old)
      (λ differs. inr (outlives bytes content is (Throughout-bytes bytes is) differs))
      (at_some b.bytes
      (λ x. AddsOnly b c (IsTornRow at body x)) bytes is torn.may_leave some content left)))
      (from_each b.bytes _ (λ bytes is says image left.
      outlives bytes image is (Throughout-bytes bytes is)
      (at_some b.bytes
      (λ x. LeavesOnly b c (IsTornRow at body x)) bytes is torn.images says image left)))

  -- over an append to a bank of which the open rows are known, where P outlives any row there that
  -- the bank keeps
  pub Throughout-row : {T E : Type 0} (bank : Bank) (at : ℕ) (bodies : List (List ℕ))
      (body : List ℕ)
      (result : Result T E) → Touches at (5 + length body) b c
      → KeepsRows bank bodies body b c result
      → ((bytes content : List ℕ) → b.bytes ≡ Some bytes → P bytes
      → DiffersIn at (5 + length body) bytes content
      → HasRowsOrOneMore (bank_bytes bank content) bodies body → P content)
      → Throughout P a c
  Throughout-row bank at bodies body result touches keeps outlives =
      adds touches.time
      (from_each b.bytes _ (λ bytes is some content left. ⊎_elim (λ old. inl old)
      (λ differs. ⊎_elim (λ old. inl old)
      (λ rows. inr (outlives bytes content is (Throughout-bytes bytes is) differs rows))
      (keeps.may_leave some content left))
      (at_some b.bytes
      (λ x. AddsOnly b c (Differs x)) bytes is touches.may_leave some content left)))
      (from_each b.bytes _ (λ bytes is says image left.
      outlives bytes image is (Throughout-bytes bytes is)
      (at_some b.bytes (λ x. LeavesOnly b c (Differs x)) bytes is touches.images says image left)
      (keeps.images says image left)))
    where
      Differs : List ℕ → List ℕ → Type 0
      Differs bytes content = DiffersIn at (5 + length body) bytes content
