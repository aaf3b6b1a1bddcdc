-- What the bytes up to the end of a TLV say of those behind it.
use Rattle.std.proofs.Common.{◌≡◌, ℕ, zero, suc, ◌+◌, ◌<◌, ◌≤◌, min, List, [], ◌∷◌, ◌++◌, length}
use Rattle.std.proofs.Common.{take, drop, Some, None, refl, sym, ◌∙◌, ap, inl, inr, arith}
use Rattle.std.proofs.Common.{append_assoc, length-append}
use Rattle.std.proofs.lemmas.List.{take-append-drop, drop-append-le, length-drop}
use Rattle.ber_tlv.specs.Head.{BeginsWithHead, RefusesHead}
use Rattle.ber_tlv.specs.declared.fault.TlvFault.{TlvFault}
use Rattle.ber_tlv.specs.declared.fault.TlvFault.TheVariants.{Short, BadTag, BadLength}
use Rattle.package_reader.specs.NextHead.{SpellsNone}

-- the shorter of both fronts is the front
pub take_least : (u : List ℕ) (k n : ℕ) → n ≡ min k (length u) → take n u ≡ take k u
take_least [] zero zero e = refl
take_least [] zero (suc n) e = absurd (omega arith)
take_least [] (suc k) zero e = refl
take_least [] (suc k) (suc n) e = absurd (omega arith)
take_least (a ∷ u) zero zero e = refl
take_least (a ∷ u) zero (suc n) e = absurd (omega arith)
take_least (a ∷ u) (suc k) zero e = absurd (omega arith)
take_least (a ∷ u) (suc k) (suc n) e = ap (λ s. a ∷ s) (take_least u k n (omega arith))

-- a head in a front is one of the bytes
pub longer : (k s t n : ℕ) (u : List ℕ) → s ≤ length (take k u) → BeginsWithHead (take k u) t n (drop s (take k u)) → BeginsWithHead u t n (drop s u)
longer k s t n u h p =
    let whole : take k u ++ drop k u ≡ u = take-append-drop k u in
    let behind : drop s u ≡ drop s (take k u) ++ drop k u = ap (drop s) (sym whole) ∙ drop-append-le s (take k u) (drop k u) h in
    record {
      head = p.head;
      spelled = p.spelled;
      whole = sym whole ∙ ap (λ x. x ++ drop k u) p.whole ∙ append_assoc p.head (drop s (take k u)) (drop k u) ∙ ap (λ x. p.head ++ x) (sym behind);
    }

-- the head of a TLV has the bytes in front of the rest
pub head_size : (s t n : ℕ) (u : List ℕ) → s ≤ length u → (p : BeginsWithHead u t n (drop s u)) → length p.head ≡ s
head_size s t n u h p =
    let e : length u ≡ length p.head + length (drop s u) = ap length p.whole ∙ length-append p.head (drop s u) in
    omega (arith, length-drop s u)

pub passes : (left s t n : ℕ) (u : List ℕ) → s ≤ length (take left u) → BeginsWithHead (take left u) t n (drop s (take left u)) → left < s + n → SpellsNone (Some left) u
passes left s t n u h p over =
    let e : length p.head ≡ s = head_size s t n (take left u) h p in
    inr (inr (inl (record { tag = t; n = n; rest = drop s (take left u); begins = p; passes = λ f. absurd (omega arith) })))

pub refused_inside : (left : ℕ) (u : List ℕ) (fault : TlvFault) → RefusesHead (take left u) fault → left ≤ length u → SpellsNone (Some left) u
refused_inside left u Short h over = inr (inr (inr (h, λ f. absurd (omega arith))))
refused_inside left u BadTag h over = inl h
refused_inside left u BadLength h over = inr (inl h)

pub bad_inside : (left : ℕ) (u : List ℕ) (fault : TlvFault) → RefusesHead (take left u) fault → (fault ≡ Short → ⊥) → SpellsNone (Some left) u
bad_inside left u Short h bad = absurd (bad refl)
bad_inside left u BadTag h bad = inl h
bad_inside left u BadLength h bad = inr (inl h)

pub bad_outside : (u : List ℕ) (fault : TlvFault) → RefusesHead u fault → (fault ≡ Short → ⊥) → SpellsNone None u
bad_outside u Short h bad = absurd (bad refl)
bad_outside u BadTag h bad = inl h
bad_outside u BadLength h bad = inr (inl h)

pub short_front : (k : ℕ) (u : List ℕ) → length (take k u) ≤ length u
short_front zero u = omega arith
short_front (suc k) [] = omega arith
short_front (suc k) (a ∷ u) = let h = short_front k u in omega arith
