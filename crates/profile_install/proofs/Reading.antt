-- Taking the parts of a package one after another.
use Rattle.std.proofs.Common.{◌≡◌, ℕ, ◌+◌, ◌<◌, ◌≤◌, Bool, true, false, cond, List, [], ◌∷◌, ◌++◌}
use Rattle.std.proofs.Common.{length, refl, sym, inl, inr, ◌∙◌, ap, subst, arith, length-append}
use Rattle.ber_tlv.specs.Head.{SpellsHead}
use Rattle.ber_tlv.specs.Tag.{SpellsTag}
use Rattle.ber_tlv.specs.Length.{SpellsLength}
use Rattle.package_reader.specs.Part.{HandsOut, HandsOutHead, HandsOutBytes, HandsOutClose}
use Rattle.package_reader.specs.ReaderState.{ReaderState, fed, opens}
use Rattle.package_reader.specs.Turn.{GoesBy, Turn}
use Rattle.package_reader.specs.Turn.Turn.{Comes, Goes}
use Rattle.package_reader.specs.declared.part.Part.{Part}
use Rattle.package_reader.specs.declared.part.Part.TheVariants.{Head, Bytes, Close, More, Bad}
use Rattle.profile_install.specs.Package.{AllWhole, HasNoPart, ReadsParts, after_part, after_turns}
use Rattle.profile_install.specs.Package.{is_last}
use Rattle.profile_install.specs.declared.work.Work.{Work}

pub goes_more : (old new next : ReaderState) (turns : List Turn) (part : Part)
    → GoesBy old turns new → HandsOut new part next
    → GoesBy old (turns ++ Goes part next.shown ∷ []) next
goes_more old new next [] part goes hands =
    (next, subst (λ (s : ReaderState). HandsOut s part next) (sym goes) hands, refl, refl)
goes_more old new next (Comes piece ∷ turns) part goes hands = goes_more (fed old piece) new next
    turns part goes hands
goes_more old new next (Goes first bytes ∷ turns) part goes hands =
    (goes.0, goes.1, goes.2, goes_more goes.0 new next turns part goes.3 hands)

pub whole_more : (turns : List Turn) (part : Part) (bytes : List ℕ) → AllWhole turns
    → is_last part ≡ false → AllWhole (turns ++ Goes part bytes ∷ [])
whole_more [] part bytes whole e = (e, tt)
whole_more (Comes piece ∷ turns) part bytes whole e = absurd whole
whole_more (Goes first its ∷ turns) part bytes whole e =
    (whole.0, whole_more turns part bytes whole.1 e)

pub after_more : (iccid : List ℕ) (work : Work) (turns : List Turn) (part : Part) (bytes : List ℕ)
    → after_turns iccid work (turns ++ Goes part bytes ∷ []) ≡ after_part iccid
    (after_turns iccid work turns) part bytes
after_more iccid work [] part bytes = refl
after_more iccid work (Comes piece ∷ turns) part bytes = after_more iccid work turns part bytes
after_more iccid work (Goes first its ∷ turns) part bytes = after_more iccid
    (after_part iccid work first its) turns part bytes

tag_some : (bytes : List ℕ) (tag : ℕ) → SpellsTag bytes tag → 1 ≤ length bytes
tag_some [] tag s = absurd s
tag_some (a ∷ more) tag s = omega arith

length_some : (bytes : List ℕ) (n : ℕ) → SpellsLength bytes n → 1 ≤ length bytes
length_some [] n s = absurd s
length_some (a ∷ more) n s = omega arith

head_some : (head : List ℕ) (tag n : ℕ) → SpellsHead head tag n → 2 ≤ length head
head_some head tag n s =
    let e : length head ≡ length s.prefix + length s.size = ap length s.whole ∙ length-append
    s.prefix s.size in
    omega (arith, e, tag_some s.prefix tag s.tagged, length_some s.size n s.sized)

ends_most : (constructed : Bool) (more same ends : List ℕ) → ends ≡ cond constructed more same
    → length more ≡ length same + 1 → length ends ≤ length same + 1
ends_most true more same ends e h = let l : length ends ≡ length more = ap length e in omega
    (arith, l, h)
ends_most false more same ends e h = let l : length ends ≡ length same = ap length e in omega
    (arith, l)

abbrev pub left_of : ReaderState → ℕ
left_of state = length state.unread + length state.ends

head_less : (old new : ReaderState) (tag n place : ℕ) → HandsOutHead old tag n place new
    → left_of new < left_of old
head_less old new tag n place h =
    let a : length old.unread ≡ length h.head.head + length new.unread = ap length h.head.whole ∙
    length-append h.head.head new.unread in
    let b = head_some h.head.head tag n h.head.spelled in
    let more : List ℕ = old.ends ++ (new.place + n) ∷ [] in
    let l : length more ≡ length old.ends + 1 = length-append old.ends ((new.place + n) ∷ []) in
    let c = ends_most (opens new.shown) more old.ends new.ends h.ends l in
    omega (arith, a, b, c)

bytes_less : (old new : ReaderState) (count : ℕ) → HandsOutBytes old count new
    → left_of new < left_of old
bytes_less old new count h =
    let a : length old.unread ≡ length new.shown + length new.unread = ap length h.takes.unread ∙
    length-append new.shown new.unread in
    let b : length new.ends ≡ length old.ends = ap length h.ends in
    omega (arith, a, b, h.some, h.shown)

close_less : (old new : ReaderState) → HandsOutClose old new → left_of new < left_of old
close_less old new h =
    let a : length old.ends ≡ length new.ends + 1 = ap length h.ends ∙ length-append new.ends
    (old.place ∷ []) in
    let b : length new.unread ≡ length old.unread = ap (λ (s : ReaderState). length s.unread)
    h.rest in
    omega (arith, a, b)

-- each part but the last leaves less to hand out
pub less : (old new : ReaderState) (part : Part) → HandsOut old part new → is_last part ≡ false
    → left_of new < left_of old
less old new (Head tag n place) h e = head_less old new tag n place h
less old new (Bytes count) h e = bytes_less old new count h
less old new Close h e = close_less old new h
less old new More h e = absurd (cc)
less old new (Bad place) h e = absurd (cc)

pub last_more : (last next : ReaderState) (part : Part) → HandsOut last part next
    → is_last part ≡ true → HasNoPart last
last_more last next (Head tag n place) h e = absurd (cc)
last_more last next (Bytes count) h e = absurd (cc)
last_more last next Close h e = absurd (cc)
last_more last next More h e = (next, inl h)
last_more last next (Bad place) h e = (next, inr (place, h))

unread_stays : (last next : ReaderState) (part : Part) → HandsOut last part next
    → is_last part ≡ true → next.unread ≡ last.unread
unread_stays last next (Head tag n place) h e = absurd (cc)
unread_stays last next (Bytes count) h e = absurd (cc)
unread_stays last next Close h e = absurd (cc)
unread_stays last next More h e = ap (λ (s : ReaderState). s.unread) h.stays
unread_stays last next (Bad place) h e = ap (λ (s : ReaderState). s.unread) h.stays

-- what was taken so far, and then no part more
pub all_read : (iccid : List ℕ) (old : ReaderState) (work done : Work) (last next : ReaderState)
    (part : Part) (turns : List Turn) → GoesBy old turns last → AllWhole turns
    → done ≡ after_turns iccid work turns → HandsOut last part next → is_last part ≡ true
    → ReadsParts iccid old work done next
all_read iccid old work done last next part turns goes whole meant h e = record {
  turns = turns;
  last = last;
  goes = goes;
  whole = whole;
  ends = last_more last next part h e;
  unread = unread_stays last next part h e;
  meant = meant;
}

-- one part more was taken
pub one_more : (iccid : List ℕ) (old last next : ReaderState) (work now after : Work) (part : Part)
    (bytes : List ℕ) (turns : List Turn)
    → GoesBy old turns last → AllWhole turns → now ≡ after_turns iccid work turns
    → HandsOut last part next → is_last part ≡ false → bytes ≡ next.shown
    → after ≡ after_part iccid now part bytes
    → (more : List Turn) × GoesBy old more next × AllWhole more ×
    (after ≡ after_turns iccid work more)
one_more iccid old last next work now after part bytes turns goes whole meant h more shown e = (
  turns ++ Goes part next.shown ∷ [],
  goes_more old last next turns part goes h,
  whole_more turns part next.shown whole more,
  e ∙ ap (λ (w : Work). after_part iccid w part bytes) meant ∙ ap
      (λ (s : List ℕ). after_part iccid (after_turns iccid work turns) part s) shown
      ∙ sym (after_more iccid work turns part next.shown),
)
