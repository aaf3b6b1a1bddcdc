-- A value has one walk, and who takes all items takes it.
use Rattle.std.proofs.Common.{◌≡◌, ℕ, ◌+◌, ◌^◌, ◌<◌, List, [], ◌∷◌, ◌++◌, length, map, Result, Ok}
use Rattle.std.proofs.Common.{Err, refl, sym, ◌∙◌, ap, subst, arith, rules, length-append}
use Rattle.std.proofs.Common.{append_assoc}
use Rattle.std.specs.List.{AllByRecursion}
use Rattle.std.specs.Iterator.{Drains, Yields}
use Rattle.ber_tlv.specs.declared.read.Tlv.{Tlv}
use Rattle.ber_tlv.specs.declared.fault.TlvFault.{TlvFault}
use Rattle.ber_tlv.specs.Tag.{SpellsTag, IsTag, tag_bytes}
use Rattle.ber_tlv.specs.Length.{SpellsLength, length_bytes}
use Rattle.ber_tlv.specs.Tlv.{BeginsWith, shortest}
use Rattle.ber_tlv.specs.Walk.{LeadWith, spelled, Object, Walks, WalkStep, item_of}
use Rattle.ber_tlv.proofs.Reading.{one_tlv}
use Rattle.ber_tlv.proofs.Refusal.{not_refused, one_refusal}

has_byte : (a : List ℕ) (t : ℕ) → SpellsTag a t → 0 < length a
has_byte [] t p = absurd p
has_byte (a ∷ x) t p = omega arith

-- a TLV takes a byte at least
pub shorter : {bytes : List ℕ} {t : ℕ} {v r : List ℕ} → BeginsWith bytes t v r → length r < length bytes
shorter {bytes} {t} {v} {r} p =
    let s = p.spelled in
    let a : 0 < length s.prefix = has_byte s.prefix t s.tagged in
    let b : length p.prefix ≡ length s.prefix + (length s.size + length v) = ap length s.whole ∙ simp length-append (omega arith) in
    let d : length bytes ≡ length p.prefix + length r = ap length p.whole ∙ length-append p.prefix r in
    omega arith

pub same_walk : (bytes : List ℕ) (xs ys : List (Result Object TlvFault)) → Walks bytes xs → Walks bytes ys → xs ≡ ys
same_walk bytes [] [] p q = refl
same_walk bytes [] (Ok y ∷ ys) p q = let s = shorter q.1 in let e : length bytes ≡ 0 = ap length p in absurd (omega arith)
same_walk bytes [] (Err g ∷ ys) p q = absurd (q.0 p)
same_walk bytes (Ok x ∷ xs) [] p q = let s = shorter p.1 in let e : length bytes ≡ 0 = ap length q in absurd (omega arith)
same_walk bytes (Ok x ∷ xs) (Ok y ∷ ys) p q =
    let h = one_tlv bytes _ _ _ _ _ _ p.1 q.1 in
    let i : xs ≡ ys = same_walk q.0 xs ys (subst (λ r. Walks r xs) h.2 p.2) q.2 in
    let e : x ≡ y = same_object x y h.0 h.1 in
    cc
  where
    same_object : (x y : Object) → x.tag ≡ y.tag → x.value ≡ y.value → x ≡ y
    same_object x y a b =
        let e : (x.tag, x.value) ≡ (y.tag, y.value) = cc in
        let made : ℕ × List ℕ → Object = λ p. record { tag = p.0; value = p.1 } in
        ap made e
same_walk bytes (Ok x ∷ xs) (Err g ∷ ys) p q = absurd (not_refused bytes _ _ _ p.1 g q.1)
same_walk bytes (Err f ∷ xs) [] p q = absurd (p.0 q)
same_walk bytes (Err f ∷ xs) (Ok y ∷ ys) p q = absurd (not_refused bytes _ _ _ q.1 f p.1)
same_walk bytes (Err f ∷ xs) (Err g ∷ ys) p q = let e : f ≡ g = one_refusal bytes f g p.1 q.1 in let i : xs ≡ [] = p.2 in let j : ys ≡ [] = q.2 in cc

-- nothing comes where no byte is left
nothing_left : (xs : List (Result Tlv TlvFault)) (t : List ℕ) → Yields WalkStep [] xs t → xs ≡ []
nothing_left [] t p = refl
nothing_left (Ok x ∷ xs) t p = let s = shorter p.1 in absurd (omega arith)
nothing_left (Err f ∷ xs) t p = absurd (p.1.0 refl)

pub drained : (xs : List (Result Tlv TlvFault)) (bytes : List ℕ) → Drains WalkStep bytes xs → Walks bytes (map item_of xs)
drained [] bytes p = p.1.1 ∙ p.1.2.0
drained (Ok x ∷ xs) bytes p =
    let y = p.1.1 in (y.0, y.1, drained xs y.0 (p.0, (p.1.0, y.2, p.1.2)))
drained (Err f ∷ xs) bytes p =
    let y = p.1.1 in
    (y.1.0, y.1.1, ap (map item_of) (nothing_left xs p.1.0 (subst (λ s. Yields WalkStep s xs p.1.0) y.1.2 y.2)))

-- one object more
pub lead_with_one_more : (bytes : List ℕ) (objects : List Object) (rest more : List ℕ) (object : Object)
    → LeadWith bytes objects rest → BeginsWith rest object.tag object.value more → LeadWith bytes (objects ++ object ∷ []) more
lead_with_one_more bytes [] rest more object p q = (more, subst (λ s. BeginsWith s object.tag object.value more) (sym p) q, refl)
lead_with_one_more bytes (o ∷ os) rest more object p q = (p.0, p.1, lead_with_one_more p.0 os rest more object p.2 q)

-- the length in as few bytes as it takes is a length
sized : (n : ℕ) → n < 2 ^ 24 → SpellsLength (length_bytes n) n
sized n h = search rules

begins_with_shortest : (tag : ℕ) (value more : List ℕ) → IsTag tag → length value < 2 ^ 24 → BeginsWith (shortest tag value ++ more) tag value more
begins_with_shortest tag value more t h = record {
  prefix = shortest tag value;
  spelled = record { prefix = tag_bytes tag; size = length_bytes (length value); tagged = t; sized = sized (length value) h; whole = refl };
  whole = refl;
}

-- objects are read from their shortest spellings
pub lead_with_spelled : (objects : List Object) (more : List ℕ) → AllByRecursion (λ object. IsTag object.tag × (length object.value < 2 ^ 24)) objects → LeadWith (spelled objects ++ more) objects more
lead_with_spelled [] more h = refl
lead_with_spelled (o ∷ os) more h =
    (spelled os ++ more, subst (λ s. BeginsWith s o.tag o.value (spelled os ++ more)) (sym (append_assoc (shortest o.tag o.value) (spelled os) more)) (begins_with_shortest o.tag o.value (spelled os ++ more) h.0.0 h.0.1), lead_with_spelled os more h.1)
