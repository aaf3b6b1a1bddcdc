-- No two parts can come next in one state.
use Rattle.std.proofs.Common.{◌≡◌, ℕ, zero, suc, ◌+◌, ◌-◌, ◌≤◌, List, [], ◌∷◌, ◌++◌, length, take}
use Rattle.std.proofs.Common.{Option, Some, None, refl, sym, ◌∙◌, ap, subst, ⊎_elim, arith}
use Rattle.std.proofs.Common.{length-append}
use Rattle.std.specs.Prelude.{slice_get}
use Rattle.ber_tlv.specs.Head.{BeginsWithHead}
use Rattle.ber_tlv.specs.declared.fault.TlvFault.TheVariants.{Short, BadTag, BadLength}
use Rattle.ber_tlv.proofs.Heads.{same_head, not_refused_head, one_head_refusal}
use Rattle.package_reader.specs.ReaderState.{ReaderState, IsAtClose}
use Rattle.package_reader.specs.NextHead.{FitsIn, SpellsNone, MayBecomeHead, left_in, up_to_end}
use Rattle.package_reader.specs.Part.{HandsOut, HandsOutHead, HandsOutBytes, HandsOutClose}
use Rattle.package_reader.specs.Part.{HandsOutMore, HandsOutBad}
use Rattle.package_reader.specs.declared.part.Part.{Part}
use Rattle.package_reader.specs.declared.part.Part.TheVariants.{Head, Bytes, Close, More, Bad}
use Rattle.package_reader.proofs.Ends.{last_is}

-- a head that lies before an end stands in front of it too
in_front : (left : ℕ) (head rest : List ℕ) → length head ≤ left → take left (head ++ rest) ≡ head ++ take (left - length head) rest
in_front left [] rest h = let e : left ≡ left - 0 = omega arith in ap (λ k. take k rest) e
in_front zero (a ∷ head) rest h = absurd (omega arith)
in_front (suc left) (a ∷ head) rest h =
    let e : left - length head ≡ suc left - suc (length head) = omega arith in
    ap (λ s. a ∷ s) (in_front left head rest (omega arith) ∙ ap (λ k. head ++ take k rest) e)

up_to : (left : Option ℕ) (unread : List ℕ) (t n : ℕ) (rest : List ℕ) → (p : BeginsWithHead unread t n rest) → FitsIn left (length p.head + n)
    → (behind : List ℕ) × (q : BeginsWithHead (up_to_end left unread) t n behind) × (length q.head ≡ length p.head)
up_to None unread t n rest p fits = (rest, p, refl)
up_to (Some left) unread t n rest p fits = (
  take (left - length p.head) rest,
  record { head = p.head; spelled = p.spelled; whole = ap (take left) p.whole ∙ in_front left p.head rest (omega arith) },
  refl,
)

both_heads : (bytes : List ℕ) (t u n m : ℕ) (x y : List ℕ) → (p : BeginsWithHead bytes t n x) → (q : BeginsWithHead bytes u m y) → (length p.head ≡ length q.head) × (n ≡ m)
both_heads bytes t u n m x y p q =
    let h = same_head bytes t u n m x y p q in
    let a : length bytes ≡ length p.head + length x = ap length p.whole ∙ length-append p.head x in
    let b : length bytes ≡ length q.head + length y = ap length q.whole ∙ length-append q.head y in
    let e : length x ≡ length y = ap length h.2 in
    (omega arith, h.1)

head_is_there : (left : Option ℕ) (unread : List ℕ) (t n : ℕ) (rest : List ℕ) → (p : BeginsWithHead unread t n rest) → FitsIn left (length p.head + n) → ¬ SpellsNone left unread
head_is_there left unread t n rest p fits none =
    let q = up_to left unread t n rest p fits in
    ⊎_elim (λ bad. not_refused_head _ _ _ _ BadTag q.1 bad)
    (⊎_elim (λ bad. not_refused_head _ _ _ _ BadLength q.1 bad)
    (⊎_elim (λ past. let e = both_heads (up_to_end left unread) past.tag t past.n n past.rest q.0 past.begins q.1 in
    let s : length past.begins.head + past.n ≡ length p.head + n = omega (arith, e.0, e.1, q.2) in
    past.passes (subst (λ (k : ℕ). FitsIn left k) (sym s) fits))
    (λ short. not_refused_head _ _ _ _ Short q.1 short.0)))
    none

head_has_come : (left : Option ℕ) (unread : List ℕ) (t n : ℕ) (rest : List ℕ) → (p : BeginsWithHead unread t n rest) → FitsIn left (length p.head + n) → ¬ MayBecomeHead left unread
head_has_come left unread t n rest p fits may = not_refused_head _ _ _ _ Short (up_to left unread t n rest p fits).1 may.0

none_or_more : (left : Option ℕ) (unread : List ℕ) → MayBecomeHead left unread → ¬ SpellsNone left unread
none_or_more left unread may none =
    ⊎_elim (λ bad. let e = one_head_refusal (up_to_end left unread) Short BadTag may.0 bad in absurd (cc))
    (⊎_elim (λ bad. let e = one_head_refusal (up_to_end left unread) Short BadLength may.0 bad in absurd (cc))
    (⊎_elim (λ past. not_refused_head _ _ _ _ Short past.begins may.0)
    (λ short. short.1 may.1)))
    none

fits_head : (old new : ReaderState) (t n place : ℕ) → (h : HandsOutHead old t n place new) → FitsIn (left_in old.ends old.place) (length h.head.head + n)
fits_head old new t n place h =
    let a : length old.unread ≡ length new.shown + length new.unread = ap length h.takes.unread ∙ length-append new.shown new.unread in
    let b : length old.unread ≡ length h.head.head + length new.unread = ap length h.head.whole ∙ length-append h.head.head new.unread in
    let e : length new.shown ≡ length h.head.head = omega arith in
    subst (λ (k : ℕ). FitsIn (left_in old.ends old.place) (k + n)) e h.fits

at_close : (old new : ReaderState) → HandsOutClose old new → IsAtClose old
at_close old new h =
    let n : length old.ends ≡ length new.ends + 1 = ap length h.ends ∙ length-append new.ends (old.place ∷ []) in
    let k : length old.ends - 1 ≡ length new.ends = omega arith in
    ap (λ s. slice_get s (length old.ends - 1)) h.ends ∙ last_is new.ends old.place (length old.ends - 1) k

head_or_more : (old new other : ReaderState) (t n place : ℕ) → HandsOutHead old t n place new → ¬ HandsOutMore old other
head_or_more old new other t n place h m =
    ⊎_elim (λ bytes. let v = h.awaited.value in absurd (omega (arith, bytes.0)))
    (λ head. head_has_come _ _ _ _ _ h.head (fits_head old new t n place h) head.1)
    m.wants

head_or_bad : (old new other : ReaderState) (t n place at : ℕ) → HandsOutHead old t n place new → ¬ HandsOutBad old at other
head_or_bad old new other t n place at h b = head_is_there _ _ _ _ _ h.head (fits_head old new t n place h) b.none

bytes_or_more : (old new other : ReaderState) (count : ℕ) → HandsOutBytes old count new → ¬ HandsOutMore old other
bytes_or_more old new other count h m =
    let a = h.some in
    let b = h.most in
    ⊎_elim (λ none. let e : length old.unread ≡ 0 = ap length none.1 in absurd (omega arith))
    (λ head. let e = head.0 in absurd (omega arith))
    m.wants

more_or_bad : (old new other : ReaderState) (at : ℕ) → HandsOutMore old new → ¬ HandsOutBad old at other
more_or_bad old new other at m b =
    ⊎_elim (λ bytes. let e = b.awaited.value in absurd (omega (arith, bytes.0)))
    (λ head. none_or_more _ _ head.1 b.none)
    m.wants

heads_are_one : (old new other : ReaderState) (t n p u m q : ℕ) → HandsOutHead old t n p new → HandsOutHead old u m q other → Head t n p ≡ Head u m q
heads_are_one old new other t n p u m q h k =
    let e = same_head _ _ _ _ _ _ _ h.head k.head in
    let a : t ≡ u = e.0 in
    let b : n ≡ m = e.1 in
    let d : p ≡ q = h.here ∙ sym k.here in
    cc

pub one_part : (old new other : ReaderState) (part another : Part) → HandsOut old part new → HandsOut old another other → part ≡ another
one_part old new other (Head t n p) (Head u m q) h k = heads_are_one old new other t n p u m q h k
one_part old new other (Head t n p) (Bytes c) h k = let a = h.awaited.value in let b = k.some in let d = k.most in absurd (omega arith)
one_part old new other (Head t n p) Close h k = absurd (h.awaited.unended (at_close old other k))
one_part old new other (Head t n p) More h k = absurd (head_or_more old new other t n p h k)
one_part old new other (Head t n p) (Bad q) h k = absurd (head_or_bad old new other t n p q h k)
one_part old new other (Bytes c) (Head u m q) h k = let a = k.awaited.value in let b = h.some in let d = h.most in absurd (omega arith)
one_part old new other (Bytes c) (Bytes d) h k = ap Bytes (h.most ∙ sym k.most)
one_part old new other (Bytes c) Close h k = absurd (h.unended (at_close old other k))
one_part old new other (Bytes c) More h k = absurd (bytes_or_more old new other c h k)
one_part old new other (Bytes c) (Bad q) h k = let a = k.awaited.value in let b = h.some in let d = h.most in absurd (omega arith)
one_part old new other Close (Head u m q) h k = absurd (k.awaited.unended (at_close old new h))
one_part old new other Close (Bytes d) h k = absurd (k.unended (at_close old new h))
one_part old new other Close Close h k = refl
one_part old new other Close More h k = absurd (k.unended (at_close old new h))
one_part old new other Close (Bad q) h k = absurd (k.awaited.unended (at_close old new h))
one_part old new other More (Head u m q) h k = absurd (head_or_more old other new u m q k h)
one_part old new other More (Bytes d) h k = absurd (bytes_or_more old other new d k h)
one_part old new other More Close h k = absurd (h.unended (at_close old other k))
one_part old new other More More h k = refl
one_part old new other More (Bad q) h k = absurd (more_or_bad old new other q h k)
one_part old new other (Bad p) (Head u m q) h k = absurd (head_or_bad old other new u m q p k h)
one_part old new other (Bad p) (Bytes d) h k = let a = h.awaited.value in let b = k.some in let e = k.most in absurd (omega arith)
one_part old new other (Bad p) Close h k = absurd (h.awaited.unended (at_close old other k))
one_part old new other (Bad p) More h k = absurd (more_or_bad old other new p k h)
one_part old new other (Bad p) (Bad q) h k = ap Bad (h.here ∙ sym k.here)
