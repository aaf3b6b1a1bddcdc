-- How a run of calls on a flash goes on.
use Rattle.std.proofs.Common.{◌≡◌, ◌⊎◌, inl, inr, ⊎_elim, ℕ, ◌+◌, ◌*◌, ◌≤◌, IsTrue, List, length}
use Rattle.std.proofs.Common.{Option, Some, None, IsSome, IfSome, Result, refl, sym, ◌∙◌, subst}
use Rattle.std.proofs.Common.{arith}
use Rattle.std.proofs.lemmas.Bool.{false≢true}
use Rattle.flash_pages.specs.Bytes.{DiffersIn}
use Rattle.flash_pages.specs.Flash.{FlashState, block_len, IsFlash, GoesOn, LeavesOnly, AddsOnly}
use Rattle.flash_pages.specs.Flash.{Changes, Touches}
use Rattle.flash_pages.proofs.Patches.{DiffersIn-refl, DiffersIn-trans, DiffersIn-wider}

-- what holds where something is known holds of what is known
pub at_some : {T : Type 0} (o : Option T) (P : T → Type 0) (x : T) → o ≡ Some x → IfSome o P → P x
at_some {T} o P x is holds = let Q : Option T → Type 0 = λ r. IfSome r P in subst Q is holds

pub from_each : {T : Type 0} (o : Option T) (P : T → Type 0) → ((x : T) → o ≡ Some x → P x)
    → IfSome o P
from_each None P each = tt
from_each (Some x) P each = each x refl

-- what is known
pub known : {T : Type 0} (o : Option T) → IsSome o → (x : T) × (o ≡ Some x)
known None some = absurd (false≢true some)
known (Some x) some = (x, refl)

pub is_known : {T : Type 0} (o : Option T) (x : T) → o ≡ Some x → IsSome o
is_known {T} o x is = let Q : Option T → Type 0 = λ r. IsSome r in subst Q (sym is) refl

pub same_some : (x y : List ℕ) → Some x ≡ Some y → x ≡ y
same_some x y is = cc

-- what reads return has the flash's length
pub flash_size : (blocks : ℕ) (s : FlashState) → IsFlash blocks s → (bytes : List ℕ)
    → s.bytes ≡ Some bytes
    → length bytes ≡ block_len * blocks
flash_size blocks s lawful bytes is =
    lawful.sizes (is_known s.bytes bytes is) bytes
    (at_some s.bytes s.may_leave bytes is lawful.may_stay)

-- before the first call
pub GoesOn-refl : (s : FlashState) → GoesOn s s
GoesOn-refl s = record {
  later = omega arith;
  bytes_known = (λ some. some, λ some. some);
  images_known = λ says. says;
  images = λ says. record { keeps = λ t image le left. left; adds = λ t image le left. inl left };
  programmed = omega arith;
  erased = omega arith;
  faults = omega arith;
}

-- one call after another
pub GoesOn-trans : (blocks : ℕ) (a b c : FlashState) → IsFlash blocks c → GoesOn a b → GoesOn b c
    → GoesOn a c
GoesOn-trans blocks a b c lawful p q = record {
  later = omega (arith, p.later, q.later);
  bytes_known = (
    λ some. q.bytes_known.0 (p.bytes_known.0 some),
    λ some. p.bytes_known.1 (q.bytes_known.1 some),
  );
  images_known = λ says. p.images_known (q.images_known says);
  images = λ says. record { keeps = keeps says; adds = adds says };
  programmed = omega (arith, p.programmed, q.programmed);
  erased = omega (arith, p.erased, q.erased);
  faults = omega (arith, p.faults, q.faults);
}
  where
    keeps : IsTrue c.images_known → (t : ℕ) (image : List ℕ) → t ≤ a.moment → a.images t image
        → c.images t image
    keeps says t image le left =
        (q.images says).keeps t image (omega (arith, le, p.later))
        ((p.images (q.images_known says)).keeps t image le left)

    adds : IsTrue c.images_known → (t : ℕ) (image : List ℕ) → t ≤ a.moment → c.images t image
        → a.images t image ⊎ c.images a.moment image
    adds says t image le left =
        ⊎_elim
        (λ was. ⊎_elim
        (λ before. inl before)
        (λ between. inr ((q.images says).keeps a.moment image p.later between))
        ((p.images (q.images_known says)).adds t image le was))
        (λ since. inr ((lawful.moments says).earlier a.moment b.moment image p.later since))
        ((q.images says).adds t image (omega (arith, le, p.later)) left)

-- what the flash held before, where it is known now
pub known_before : (a b : FlashState) → GoesOn a b → (x : List ℕ) → b.bytes ≡ Some x
    → (y : List ℕ) × (a.bytes ≡ Some y)
known_before a b time x is = known a.bytes (time.bytes_known.1 (is_known b.bytes x is))

pub known_after : (a b : FlashState) → GoesOn a b → (x : List ℕ) → a.bytes ≡ Some x
    → (y : List ℕ) × (b.bytes ≡ Some y)
known_after a b time x is = known b.bytes (time.bytes_known.0 (is_known a.bytes x is))

-- P holds of each image since a, by way of b
pub LeavesOnly-trans : (a b c : FlashState) (P : List ℕ → Type 0) → GoesOn a b → GoesOn b c
    → LeavesOnly a b P → LeavesOnly b c P → LeavesOnly a c P
LeavesOnly-trans a b c P p q first second says image left =
    ⊎_elim (λ was. first (q.images_known says) image was) (λ since. second says image since)
    ((q.images says).adds a.moment image p.later left)

-- P holds of each content that a restart may leave after two calls and might not before
pub AddsOnly-trans : (a b c : FlashState) (P : List ℕ → Type 0) → GoesOn b c → AddsOnly a b P
    → AddsOnly b c P
    → AddsOnly a c P
AddsOnly-trans a b c P q first second some content left =
    ⊎_elim (λ was. first (q.bytes_known.1 some) content was) (λ new. inr new)
    (second some content left)

-- the same of what has P in another way
pub AddsOnly-weaken : (a b : FlashState) (P Q : List ℕ → Type 0)
    → ((content : List ℕ) → P content → Q content)
    → AddsOnly a b P → AddsOnly a b Q
AddsOnly-weaken a b P Q then adds some content left =
    ⊎_elim (λ was. inl was) (λ new. inr (then content new)) (adds some content left)

pub Touches-refl : (blocks at n : ℕ) (s : FlashState) → IsFlash blocks s → Touches at n s s
Touches-refl blocks at n s lawful = record {
  time = GoesOn-refl s;
  bytes = from_each s.bytes _
      (λ before is. from_each s.bytes _ (λ now is_now. same before now (sym is ∙ is_now)));
  may_leave = from_each s.bytes _ (λ before is some content left. inl left);
  images = from_each s.bytes _
      (λ before is says image left. same before image
      (sym is ∙ (lawful.moments says).only_now image left));
}
  where
    same : (before now : List ℕ) → Some before ≡ Some now → DiffersIn at n before now
    same before now is =
        let equal : before ≡ now = cc in
        subst (DiffersIn at n before) equal (DiffersIn-refl at n before)

pub Touches-wider : (at n at' n' : ℕ) (a b : FlashState) → at' ≤ at → at + n ≤ at' + n'
    → Touches at n a b
    → Touches at' n' a b
Touches-wider at n at' n' a b below above p = record {
  time = p.time;
  bytes = from_each a.bytes _ (λ before is. from_each b.bytes _
      (λ now is_now. wider before now
      (at_some b.bytes _ now is_now (at_some a.bytes _ before is p.bytes))));
  may_leave = from_each a.bytes _ (λ before is. AddsOnly-weaken a b _ _ (wider before)
      (at_some a.bytes (λ x. AddsOnly a b (DiffersIn at n x)) before is p.may_leave));
  images = from_each a.bytes _ (λ before is says image left. wider before image
      (at_some a.bytes
      (λ x. LeavesOnly a b (DiffersIn at n x)) before is p.images says image left));
}
  where
    wider : (before image : List ℕ) → DiffersIn at n before image → DiffersIn at' n' before image
    wider before image differs = DiffersIn-wider at n at' n' before image below above differs

pub Touches-from_changes : {E : Type 0} (at : ℕ) (bytes : List ℕ) (a b : FlashState)
    (result : Result Unit E)
    → Changes at bytes a b result → Touches at (length bytes) a b
Touches-from_changes at bytes a b result p = record {
  time = p.time;
  bytes = p.torn;
  may_leave = p.may_leave;
  images = from_each a.bytes _
      (λ before is says image left. (at_some a.bytes _ before is p.images says image).0 left);
}

pub Touches-trans : (blocks at n : ℕ) (a b c : FlashState) → IsFlash blocks c → Touches at n a b
    → Touches at n b c
    → Touches at n a c
Touches-trans blocks at n a b c lawful p q = record {
  time = GoesOn-trans blocks a b c lawful p.time q.time;
  bytes = from_each a.bytes _ (λ before is. from_each c.bytes _ (λ now is_now.
      let mid = known_after a b p.time before is in
      DiffersIn-trans at n before mid.0 now (between before is mid.0 mid.1)
      (at_some c.bytes _ now is_now (at_some b.bytes _ mid.0 mid.1 q.bytes))));
  may_leave = from_each a.bytes _ (λ before is.
      let mid = known_after a b p.time before is in
      let first : AddsOnly a b (DiffersIn at n before) =
      at_some a.bytes (λ x. AddsOnly a b (DiffersIn at n x)) before is p.may_leave in
      let later : AddsOnly b c (DiffersIn at n mid.0) =
      at_some b.bytes (λ x. AddsOnly b c (DiffersIn at n x)) mid.0 mid.1 q.may_leave in
      AddsOnly-trans a b c (DiffersIn at n before) q.time first
      (AddsOnly-weaken b c _ _ (further before is mid.0 mid.1) later));
  images = from_each a.bytes _ (λ before is.
      let mid = known_after a b p.time before is in
      let first : LeavesOnly a b (DiffersIn at n before) =
      at_some a.bytes (λ x. LeavesOnly a b (DiffersIn at n x)) before is p.images in
      let later : LeavesOnly b c (DiffersIn at n mid.0) =
      at_some b.bytes (λ x. LeavesOnly b c (DiffersIn at n x)) mid.0 mid.1 q.images in
      LeavesOnly-trans a b c (DiffersIn at n before) p.time q.time first
      (λ says image left. further before is mid.0 mid.1 image (later says image left)));
}
  where
    between : (before : List ℕ) → a.bytes ≡ Some before → (mid : List ℕ) → b.bytes ≡ Some mid
        → DiffersIn at n before mid
    between before is mid is_mid =
        at_some b.bytes _ mid is_mid (at_some a.bytes _ before is p.bytes)

    further : (before : List ℕ) → a.bytes ≡ Some before → (mid : List ℕ) → b.bytes ≡ Some mid
        → (image : List ℕ) → DiffersIn at n mid image → DiffersIn at n before image
    further before is mid is_mid image differs =
        DiffersIn-trans at n before mid image (between before is mid is_mid) differs
