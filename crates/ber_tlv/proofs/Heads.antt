-- Bytes begin with one head at most, or a reader has one reason to refuse them.
use Rattle.std.proofs.Common.{◌≡◌, ℕ, ◌+◌, ◌-◌, ◌^◌, ◌<◌, ◌≤◌, List, [], ◌∷◌, ◌++◌, length, drop}
use Rattle.std.proofs.Common.{refl, sym, ◌∙◌, ap, subst, inl, arith, append_assoc, length-append}
use Rattle.std.proofs.Math.Seq.{drop-append-add}
use Rattle.ber_tlv.specs.declared.fault.TlvFault.{TlvFault}
use Rattle.ber_tlv.specs.declared.fault.TlvFault.TheVariants.{Short, BadTag, BadLength}
use Rattle.ber_tlv.specs.Tag.{SpellsTag, HasBadTag}
use Rattle.ber_tlv.specs.Length.{SpellsLength}
use Rattle.ber_tlv.specs.Tlv.{HasBadLength}
use Rattle.ber_tlv.specs.Parts.{BeginsWithTag, BeginsWithLength, RefusesTag, RefusesLength}
use Rattle.ber_tlv.specs.Head.{BeginsWithHead, RefusesHead}
use Rattle.ber_tlv.proofs.Reading.{same_tag, same_length}
use Rattle.ber_tlv.proofs.Refusal.{good_tag, good_length, bad_behind, bad_before, tag_of_bad}

-- a head is a tag and, behind it, a length
pub tag_of_head : {bytes rest : List ℕ} {t n : ℕ} → (p : BeginsWithHead bytes t n rest) → BeginsWithTag bytes t (p.spelled.size ++ rest)
tag_of_head {bytes} {rest} p = record {
  prefix = p.spelled.prefix;
  tagged = p.spelled.tagged;
  whole = p.whole ∙ ap (λ s. s ++ rest) p.spelled.whole ∙ append_assoc p.spelled.prefix p.spelled.size rest;
}

pub length_of_head : {bytes rest : List ℕ} {t n : ℕ} → (p : BeginsWithHead bytes t n rest) → BeginsWithLength (p.spelled.size ++ rest) n rest
length_of_head p = record { size = p.spelled.size; sized = p.spelled.sized; whole = refl }

pub same_head : (bytes : List ℕ) (t u n m : ℕ) (x y : List ℕ) → BeginsWithHead bytes t n x → BeginsWithHead bytes u m y → (t ≡ u) × (n ≡ m) × (x ≡ y)
same_head bytes t u n m x y p q =
    let a = same_tag (tag_of_head p) (tag_of_head q) in
    let b = same_length (subst (λ s. BeginsWithLength s n x) a.1 (length_of_head p)) (length_of_head q) in
    (a.0, b.0, b.1)

pub not_refused_head : (bytes : List ℕ) (t n : ℕ) (rest : List ℕ) (f : TlvFault) → BeginsWithHead bytes t n rest → ¬ RefusesHead bytes f
not_refused_head bytes t n rest BadTag p = good_tag (tag_of_head p)
not_refused_head bytes t n rest BadLength p = λ b. good_length (length_of_head p) (bad_before (tag_of_head p) b)
not_refused_head bytes t n rest Short p = λ h. h.2 t n rest p

pub one_head_refusal : (bytes : List ℕ) (f g : TlvFault) → RefusesHead bytes f → RefusesHead bytes g → f ≡ g
one_head_refusal bytes BadTag BadTag p q = refl
one_head_refusal bytes BadTag BadLength p q = absurd (good_tag (tag_of_bad q) p)
one_head_refusal bytes BadTag Short p q = absurd (q.0 p)
one_head_refusal bytes BadLength BadTag p q = absurd (good_tag (tag_of_bad p) q)
one_head_refusal bytes BadLength BadLength p q = refl
one_head_refusal bytes BadLength Short p q = absurd (q.1 p)
one_head_refusal bytes Short BadTag p q = absurd (p.0 q)
one_head_refusal bytes Short BadLength p q = absurd (p.1 q)
one_head_refusal bytes Short Short p q = refl

-- the step that refuses gives the reason
pub head_refused_at_tag : (bytes : List ℕ) (f : TlvFault) → RefusesTag bytes f → RefusesHead bytes f
head_refused_at_tag bytes BadTag h = h
head_refused_at_tag bytes BadLength h = absurd h
head_refused_at_tag bytes Short h = (h.0, λ b. h.1 _ _ (tag_of_bad b), λ t n r p. h.1 _ _ (tag_of_head p))

pub head_refused_at_length : (bytes rest : List ℕ) (t : ℕ) (f : TlvFault) → BeginsWithTag bytes t rest → RefusesLength rest f → RefusesHead bytes f
head_refused_at_length bytes rest t BadTag p h = absurd h
head_refused_at_length bytes rest t BadLength p h = bad_behind rest p h
head_refused_at_length bytes rest t Short p h =
    (good_tag p, λ b. h.0 (bad_before p b), λ u n r q. h.1 _ _ (subst (λ s. BeginsWithLength s n r) (same_tag (tag_of_head q) p).1 (length_of_head q)))

-- what is read stands at the front
pub head_at : (bytes rest more : List ℕ) (t n : ℕ) → BeginsWithTag bytes t rest → BeginsWithLength rest n more → BeginsWithHead bytes t n (drop (length bytes - length more) bytes)
head_at bytes rest more t n p q =
    let head = p.prefix ++ q.size in
    let whole : bytes ≡ head ++ more = p.whole ∙ ap (λ s. p.prefix ++ s) q.whole ∙ sym (append_assoc p.prefix q.size more) in
    let counted : length bytes ≡ length head + length more = ap length whole ∙ length-append head more in
    let same : length bytes - length more ≡ length head + 0 = omega arith in
    let behind : drop (length bytes - length more) bytes ≡ more =
    ap (λ k. drop k bytes) same ∙ ap (λ s. drop (length head + 0) s) whole ∙ drop-append-add head more 0 in
    record {
      head = head;
      spelled = record { prefix = p.prefix; size = q.size; tagged = p.tagged; sized = q.sized; whole = refl };
      whole = whole ∙ ap (λ s. head ++ s) (sym behind);
    }

tag_takes : (a : List ℕ) (t : ℕ) → SpellsTag a t → (1 ≤ length a) × (length a ≤ 3)
tag_takes [] t p = absurd p
tag_takes (a ∷ []) t p = (omega arith, omega arith)
tag_takes (a ∷ b ∷ []) t p = (omega arith, omega arith)
tag_takes (a ∷ b ∷ c ∷ []) t p = (omega arith, omega arith)
tag_takes (a ∷ b ∷ c ∷ d ∷ m) t p = absurd p

length_takes : (a : List ℕ) (n : ℕ) → SpellsLength a n → (1 ≤ length a) × (length a ≤ 4) × (n < 2 ^ 24)
length_takes [] n p = absurd p
length_takes (a ∷ []) n p = (omega arith, omega arith, omega arith)
length_takes (a ∷ b ∷ []) n p = (omega arith, omega arith, omega arith)
length_takes (a ∷ b ∷ c ∷ []) n p = (omega arith, omega arith, omega arith)
length_takes (a ∷ b ∷ c ∷ d ∷ []) n p = (omega arith, omega arith, omega arith)
length_takes (a ∷ b ∷ c ∷ d ∷ e ∷ m) n p = absurd p

-- so many bytes
pub head_takes : (bytes rest more : List ℕ) (t n : ℕ) → BeginsWithTag bytes t rest → BeginsWithLength rest n more
    → (2 ≤ length bytes - length more) × (length bytes - length more ≤ 7) × (n < 2 ^ 24)
head_takes bytes rest more t n p q =
    let a = tag_takes p.prefix t p.tagged in
    let b = length_takes q.size n q.sized in
    let d : length bytes ≡ length p.prefix + length rest = ap length p.whole ∙ length-append p.prefix rest in
    let e : length rest ≡ length q.size + length more = ap length q.whole ∙ length-append q.size more in
    (omega arith, omega arith, b.2)

pub bad_tag_stays : (bytes more : List ℕ) → HasBadTag bytes → HasBadTag (bytes ++ more)
bad_tag_stays [] more h = absurd h
bad_tag_stays (a ∷ []) more h = absurd h
bad_tag_stays (a ∷ b ∷ []) [] h = h
bad_tag_stays (a ∷ b ∷ []) (c ∷ more) h = (h.0, inl h.1)
bad_tag_stays (a ∷ b ∷ c ∷ bytes) more h = h

pub bad_length_stays : (bytes more : List ℕ) → HasBadLength bytes → HasBadLength (bytes ++ more)
bad_length_stays bytes more h = record {
  prefix = h.prefix;
  tag = h.tag;
  first = h.first;
  more = h.more ++ more;
  tagged = h.tagged;
  bad = h.bad;
  whole = ap (λ s. s ++ more) h.whole ∙ append_assoc h.prefix (h.first ∷ h.more) more;
}
