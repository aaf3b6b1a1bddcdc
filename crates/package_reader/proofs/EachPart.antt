-- In each state a part comes next.
use Rattle.std.proofs.Common.{◌≡◌, ℕ, suc, ◌+◌, ◌-◌, ◌≤◌, min, List, [], ◌∷◌, ◌++◌, length, take}
use Rattle.std.proofs.Common.{drop, Option, Some, None, refl, sym, ◌∙◌, ap, ⊎_elim, inl, inr, arith}
use Rattle.std.proofs.Common.{append_assoc, cond}
use Rattle.std.specs.Prelude.{slice_get}
use Rattle.std.proofs.lemmas.Bool.{cases_lt}
use Rattle.std.proofs.lemmas.List.{take-append-drop, length-take-le}
use Rattle.ber_tlv.specs.Head.{BeginsWithHead, RefusesHead}
use Rattle.ber_tlv.specs.declared.fault.TlvFault.{TlvFault}
use Rattle.ber_tlv.specs.declared.fault.TlvFault.TheVariants.{Short, BadTag, BadLength}
use Rattle.package_reader.specs.ReaderState.{ReaderState, IsAtClose, innermost, opens}
use Rattle.package_reader.specs.NextHead.{EndBefore, FitsIn, SpellsNone, left_in, up_to_end}
use Rattle.package_reader.specs.Part.{AwaitsHead, HandsOut}
use Rattle.package_reader.specs.declared.part.Part.{Part}
use Rattle.package_reader.specs.declared.part.Part.TheVariants.{Head, Bytes, Close, More, Bad}
use Rattle.package_reader.proofs.EachHead.{IsDecided, below, each_head, same, upto}

-- a part that comes next, and the state behind it
abbrev pub NextPart : ReaderState → Type 0
NextPart old = (part : Part) × (new : ReaderState) × HandsOut old part new

-- the places in front of the last
all_but_last : (xs : List ℕ) (p : ℕ) → innermost xs ≡ Some p
    → (ys : List ℕ) × (xs ≡ ys ++ p ∷ [])
all_but_last [] p h = absurd (cc)
all_but_last (x ∷ []) p h = let e : x ≡ p = cc in ([], ap (λ k. k ∷ []) e)
all_but_last (x ∷ y ∷ xs) p h =
    let k : length (x ∷ y ∷ xs) - 1 ≡ suc (length (y ∷ xs) - 1) = omega arith in
    let rest = all_but_last (y ∷ xs) p
    (sym (ap (λ i. slice_get (x ∷ y ∷ xs) i) k) ∙ h) in
    (x ∷ rest.0, ap (λ s. x ∷ s) rest.1)

is_last : (last : Option ℕ) (p : ℕ) → IsDecided (last ≡ Some p)
is_last None p = inr (λ h. absurd (cc))
is_last (Some q) p = ⊎_elim (λ e. inl (ap Some e)) (λ no. inr (λ h. no (cc))) (same q p)

next_close : (old : ReaderState) → IsAtClose old → NextPart old
next_close old at =
    let front = all_but_last old.ends old.place at in
    (Close, record old { ends = front.0; shown = [] }, record { ends = front.1; rest = refl })

next_bytes_of : (old : ReaderState) (unread : List ℕ) → old.unread ≡ unread → (¬ IsAtClose old)
    → 1 ≤ old.value → NextPart old
next_bytes_of old [] e unended some = (
  More,
  record old { shown = [] },
  record { unended = unended; wants = inl (some, e); stays = refl },
)
next_bytes_of old (a ∷ more) e unended some =
    let l : length old.unread ≡ suc (length more) = ap length e in
    let count = min old.value (length old.unread) in
    let few : count ≤ length old.unread = omega arith in
    let many : length (take count old.unread) ≡ count = length-take-le count old.unread few in (
      Bytes count,
      record {
        place = old.place + length (take count old.unread);
        unread = drop count old.unread;
        value = old.value - count;
        ends = old.ends;
        shown = take count old.unread;
      },
      record {
        unended = unended;
        some = omega arith;
        most = refl;
        takes = record { unread = sym (take-append-drop count old.unread); place = refl };
        shown = many;
        value = omega arith;
        ends = refl;
      },
    )

fits_decided : (left : Option ℕ) (count : ℕ) → IsDecided (FitsIn left count)
fits_decided None count = inl tt
fits_decided (Some left) count = upto count left

before_decided : (left : Option ℕ) (bytes : List ℕ) → IsDecided (EndBefore left bytes)
before_decided None bytes = inl tt
before_decided (Some left) bytes = below (length bytes) left

-- a head in front of an end is one of all the bytes
whole_head : (left : Option ℕ) (unread : List ℕ) (t n : ℕ) (rest : List ℕ)
    → (p : BeginsWithHead (up_to_end left unread) t n rest)
    → (behind : List ℕ) × (unread ≡ p.head ++ behind)
whole_head None unread t n rest p = (rest, p.whole)
whole_head (Some left) unread t n rest p = (
  rest ++ drop left unread,
  sym (take-append-drop left unread) ∙ ap (λ s. s ++ drop left unread) p.whole
      ∙ append_assoc p.head rest (drop left unread),
)

next_head : (old : ReaderState) (t n : ℕ) (rest : List ℕ) → AwaitsHead old
    → (p : BeginsWithHead (up_to_end (left_in old.ends old.place) old.unread) t n rest)
    → FitsIn (left_in old.ends old.place) (length p.head + n) → NextPart old
next_head old t n rest awaits p fits =
    let whole = whole_head (left_in old.ends old.place) old.unread t n rest p in (
      Head t n old.place,
      record {
        place = old.place + length p.head;
        unread = whole.0;
        value = cond (opens p.head) 0 n;
        ends = cond (opens p.head) (old.ends ++ (old.place + length p.head + n) ∷ []) old.ends;
        shown = p.head;
      },
      record {
        awaited = awaits;
        here = refl;
        takes = record { unread = whole.1; place = refl };
        head = record { head = p.head; spelled = p.spelled; whole = whole.1 };
        fits = fits;
        ends = refl;
        value = refl;
      },
    )

next_bad : (old : ReaderState) → AwaitsHead old
    → SpellsNone (left_in old.ends old.place) old.unread → NextPart old
next_bad old awaits none = (
  Bad old.place,
  record old { shown = [] },
  record { awaited = awaits; here = refl; none = none; stays = refl },
)

next_refused : (old : ReaderState) (fault : TlvFault) → AwaitsHead old
    → RefusesHead (up_to_end (left_in old.ends old.place) old.unread) fault → NextPart old
next_refused old BadTag awaits refused = next_bad old awaits (inl refused)
next_refused old BadLength awaits refused = next_bad old awaits (inr (inl refused))
next_refused old Short awaits refused = ⊎_elim
    (λ before. (
      More,
      record old { shown = [] },
      record {
        unended = awaits.unended;
        wants = inr (awaits.value, (refused, before));
        stays = refl;
      },
    ))
    (λ reached. next_bad old awaits (inr (inr (inr (refused, reached)))))
    (before_decided (left_in old.ends old.place) old.unread)

next_at_head : (old : ReaderState) → AwaitsHead old → NextPart old
next_at_head old awaits =
    let left = left_in old.ends old.place in
    ⊎_elim
    (λ found. ⊎_elim (λ fits. next_head old found.0 found.1 found.2 awaits found.3 fits)
    (λ past. next_bad old awaits (inr (inr (inl (record {
      tag = found.0;
      n = found.1;
      rest = found.2;
      begins = found.3;
      passes = past;
    }))))) (fits_decided left (length found.3.head + found.1)))
    (λ refused. next_refused old refused.0 awaits refused.1)
    (each_head (up_to_end left old.unread))

pub each_part : (old : ReaderState) → NextPart old
each_part old = ⊎_elim (λ at. next_close old at)
    (λ unended. ⊎_elim
    (λ none. next_at_head old (record { unended = unended; value = omega arith }))
    (λ some. next_bytes_of old old.unread refl unended some) (cases_lt old.value 1))
    (is_last (innermost old.ends) old.place)
