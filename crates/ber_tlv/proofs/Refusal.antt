-- Bytes that begin with a TLV aren't refused, and others are refused for one reason.
use Rattle.std.proofs.Common.{◌≡◌, ℕ, ◌+◌, ◌-◌, ◌<◌, ◌≤◌, List, [], ◌∷◌, ◌++◌, length, take, drop}
use Rattle.std.proofs.Common.{Result, Ok, Err, refl, sym, ◌∙◌, ap, subst, ⊎_elim, arith}
use Rattle.std.proofs.Common.{append_assoc, length-append}
use Rattle.std.specs.Prelude.{MatchResult, IsErrOf, IsOkAnd, ◌↔◌}
use Rattle.std.proofs.lemmas.List.{take-append-drop, length-take-le, length-drop}
use Rattle.std.proofs.Math.Seq.{drop-append-add}
use Rattle.ber_tlv.specs.declared.fault.TlvFault.{TlvFault}
use Rattle.ber_tlv.specs.declared.fault.TlvFault.TheVariants.{Short, BadTag, BadLength}
use Rattle.ber_tlv.specs.declared.read.Tlv.{Tlv}
use Rattle.ber_tlv.specs.Tag.{SpellsTag, HasBadTag}
use Rattle.ber_tlv.specs.Length.{SpellsLength}
use Rattle.ber_tlv.specs.Tlv.{BeginsWith, HasBadLength, Refuses}
use Rattle.ber_tlv.specs.Parts.{BeginsWithTag, BeginsWithLength, BeginsBadly, RefusesTag}
use Rattle.ber_tlv.specs.Parts.{RefusesLength, StandsFirst}
use Rattle.ber_tlv.proofs.Reading.{same_tag, same_length, tag_of, length_of, one_tlv}

-- a good tag isn't a bad one, whatever follows
good_prefix : (a x : List ℕ) (t : ℕ) → SpellsTag a t → ¬ HasBadTag (a ++ x)
good_prefix [] x t p = absurd p
good_prefix (a ∷ []) [] t p = λ h. h
good_prefix (a ∷ []) (b ∷ []) t p = λ h. absurd (omega arith)
good_prefix (a ∷ []) (b ∷ c ∷ m) t p = λ h. absurd (omega arith)
good_prefix (a ∷ g ∷ []) [] t p = λ h. absurd (omega arith)
good_prefix (a ∷ g ∷ []) (c ∷ m) t p = λ h. ⊎_elim (λ e. absurd (omega arith)) (λ e. absurd (omega arith)) h.1
good_prefix (a ∷ g ∷ i ∷ []) x t p = λ h. ⊎_elim (λ e. absurd (omega arith)) (λ e. absurd (omega arith)) h.1
good_prefix (a ∷ g ∷ i ∷ j ∷ n) x t p = absurd p

pub good_tag : {bytes rest : List ℕ} {t : ℕ} → BeginsWithTag bytes t rest → ¬ HasBadTag bytes
good_tag {bytes} {rest} {t} p = λ h. good_prefix p.prefix rest t p.tagged (subst HasBadTag p.whole h)

-- a good length isn't a bad one, whatever follows
good_size : (a x : List ℕ) (n : ℕ) → SpellsLength a n → ¬ BeginsBadly (a ++ x)
good_size [] x n p = absurd p
good_size (a ∷ []) x n p = ⊎_elim (λ e. absurd (omega arith)) (λ e. absurd (omega arith))
good_size (a ∷ b ∷ []) x n p = ⊎_elim (λ e. absurd (omega arith)) (λ e. absurd (omega arith))
good_size (a ∷ b ∷ c ∷ []) x n p = ⊎_elim (λ e. absurd (omega arith)) (λ e. absurd (omega arith))
good_size (a ∷ b ∷ c ∷ d ∷ []) x n p = ⊎_elim (λ e. absurd (omega arith)) (λ e. absurd (omega arith))
good_size (a ∷ b ∷ c ∷ d ∷ e ∷ m) x n p = absurd p

pub good_length : {bytes rest : List ℕ} {n : ℕ} → BeginsWithLength bytes n rest → ¬ BeginsBadly bytes
good_length {bytes} {rest} {n} p = λ h. good_size p.size rest n p.sized (subst BeginsBadly p.whole h)

-- behind the tag the length is bad exactly where the bytes have a bad length
pub bad_behind : {bytes : List ℕ} (rest : List ℕ) {t : ℕ} → BeginsWithTag bytes t rest → BeginsBadly rest → HasBadLength bytes
bad_behind [] p h = absurd h
bad_behind (first ∷ more) {t} p h = record { prefix = p.prefix; tag = t; first = first; more = more; tagged = p.tagged; bad = h; whole = p.whole }

pub bad_before : {bytes rest : List ℕ} {t : ℕ} → BeginsWithTag bytes t rest → HasBadLength bytes → BeginsBadly rest
bad_before {bytes} {rest} {t} p h =
    let prefix : BeginsWithTag bytes h.tag (h.first ∷ h.more) = record { prefix = h.prefix; tagged = h.tagged; whole = h.whole } in
    subst BeginsBadly (same_tag prefix p).1 h.bad

pub tag_of_bad : {bytes : List ℕ} → (h : HasBadLength bytes) → BeginsWithTag bytes h.tag (h.first ∷ h.more)
tag_of_bad h = record { prefix = h.prefix; tagged = h.tagged; whole = h.whole }

-- the step that refuses gives the reason
pub refused_at_tag : (bytes : List ℕ) (f : TlvFault) → RefusesTag bytes f → Refuses bytes f
refused_at_tag bytes BadTag h = h
refused_at_tag bytes BadLength h = absurd h
refused_at_tag bytes Short h = (h.0, λ b. h.1 _ _ (tag_of_bad b), λ t v r p. h.1 _ _ (tag_of p))

pub refused_at_length : (bytes rest : List ℕ) (t : ℕ) (f : TlvFault) → BeginsWithTag bytes t rest → RefusesLength rest f → Refuses bytes f
refused_at_length bytes rest t BadTag p h = absurd h
refused_at_length bytes rest t BadLength p h = bad_behind rest p h
refused_at_length bytes rest t Short p h =
    (good_tag p, λ b. h.0 (bad_before p b), λ u v r q. h.1 _ _ (subst (λ s. BeginsWithLength s (length v) (v ++ r)) (same_tag (tag_of q) p).1 (length_of q)))

pub refused_at_value : (bytes rest more : List ℕ) (t n : ℕ) → BeginsWithTag bytes t rest → BeginsWithLength rest n more → length more < n → Refuses bytes Short
refused_at_value bytes rest more t n p q h = (
  good_tag p,
  λ b. good_length q (bad_before p b),
  λ u v r w.
      let k = same_length (subst (λ s. BeginsWithLength s (length v) (v ++ r)) (same_tag (tag_of w) p).1 (length_of w)) q in
      let e : length (v ++ r) ≡ length more = ap length k.1 in
      let f : length v ≡ n = k.0 in
      absurd (omega (arith, length-append v r)),
)

pub found_at : (bytes rest more : List ℕ) (t n : ℕ) → BeginsWithTag bytes t rest → BeginsWithLength rest n more → n ≤ length more → BeginsWith bytes t (take n more) (drop n more)
found_at bytes rest more t n p q h = record {
  prefix = p.prefix ++ q.size ++ take n more;
  spelled = record {
    prefix = p.prefix;
    size = q.size;
    tagged = p.tagged;
    sized = subst (SpellsLength q.size) (sym (length-take-le n more h)) q.sized;
    whole = refl;
  };
  whole = p.whole ∙ ap (λ s. p.prefix ++ s) q.whole ∙ ap (λ s. p.prefix ++ (q.size ++ s)) (sym (take-append-drop n more)) ∙ simp append_assoc;
}

-- what is read stands at the prefix, in so many bytes
pub stands_at : (bytes rest more : List ℕ) (t n : ℕ) → BeginsWithTag bytes t rest → BeginsWithLength rest n more → n ≤ length more → StandsFirst bytes t (take n more) (length bytes - length more + n)
stands_at bytes rest more t n p q h =
    let head = p.prefix ++ q.size in
    let whole : bytes ≡ head ++ more = p.whole ∙ ap (λ s. p.prefix ++ s) q.whole ∙ sym (append_assoc p.prefix q.size more) in
    let counted : length bytes ≡ length head + length more = ap length whole ∙ length-append head more in
    let same : length bytes - length more + n ≡ length head + n = omega arith in
    let behind : drop n more ≡ drop (length bytes - length more + n) bytes =
    sym (drop-append-add head more n) ∙ ap (λ s. drop (length head + n) s) (sym whole) ∙ ap (λ k. drop k bytes) (sym same) in
    record { within = omega arith; begins = subst (BeginsWith bytes t (take n more)) behind (found_at bytes rest more t n p q h) }

-- what begins with a TLV isn't refused
pub not_refused : (bytes : List ℕ) (t : ℕ) (v r : List ℕ) → BeginsWith bytes t v r → (f : TlvFault) → ¬ Refuses bytes f
not_refused bytes t v r p BadTag = good_tag (tag_of p)
not_refused bytes t v r p BadLength = λ b. good_length (length_of p) (bad_before (tag_of p) b)
not_refused bytes t v r p Short = λ h. h.2 t v r p

-- one reason alone
pub one_refusal : (bytes : List ℕ) (f g : TlvFault) → Refuses bytes f → Refuses bytes g → f ≡ g
one_refusal bytes BadTag BadTag p q = refl
one_refusal bytes BadTag BadLength p q = absurd (good_tag (tag_of_bad q) p)
one_refusal bytes BadTag Short p q = absurd (q.0 p)
one_refusal bytes BadLength BadTag p q = absurd (good_tag (tag_of_bad p) q)
one_refusal bytes BadLength BadLength p q = refl
one_refusal bytes BadLength Short p q = absurd (q.1 p)
one_refusal bytes Short BadTag p q = absurd (p.0 q)
one_refusal bytes Short BadLength p q = absurd (p.1 q)
one_refusal bytes Short Short p q = refl

-- so a reader that finds what is there or gives the reason gives each fault exactly where it is the reason
pub exact_fault : {X : Type 0} (r : Result X TlvFault) (P : X → Type 0) (bytes : List ℕ) → MatchResult r P (Refuses bytes) → ((x : X) → P x → (f : TlvFault) → ¬ Refuses bytes f) → (f : TlvFault) → IsErrOf r f ↔ Refuses bytes f
exact_fault (Ok x) P bytes p n f = (λ e. cc, λ h. absurd (n x p f h))
exact_fault (Err d) P bytes p n f = (λ e. let h : d ≡ f = cc in subst (Refuses bytes) h p, λ h. ap Err (one_refusal bytes d f p h))

-- and finds what stands there
pub finds : (r : Result (Tlv × ℕ) TlvFault) (bytes : List ℕ) → MatchResult r (λ x. StandsFirst bytes x.0.tag x.0.value.now x.1) (Refuses bytes)
    → (t : ℕ) (v rest : List ℕ) → BeginsWith bytes t v rest
    → IsOkAnd r (λ x. (x.0.tag ≡ t) × (x.0.value.now ≡ v) × (x.1 + length rest ≡ length bytes))
finds (Ok x) bytes p t v rest q =
    let h = one_tlv bytes _ _ _ _ _ _ p.begins q in
    let e : length (drop x.1 bytes) ≡ length rest = ap length h.2 in
    let w = p.within in
    (h.0, h.1, omega (arith, length-drop x.1 bytes))
finds (Err f) bytes p t v rest q = absurd (not_refused bytes t v rest q f p)
