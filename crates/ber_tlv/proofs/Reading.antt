-- Bytes begin with one tag, with one length and with one TLV at most, or a reader has one reason to refuse them.
use Rattle.std.proofs.Common.{◌≡◌, ℕ, List, [], ◌∷◌, ◌++◌, length, refl, sym, ◌∙◌, ap, subst, arith}
use Rattle.std.proofs.Common.{append_assoc}
use Rattle.ber_tlv.specs.Tag.{SpellsTag}
use Rattle.ber_tlv.specs.Length.{SpellsLength}
use Rattle.ber_tlv.specs.Tlv.{BeginsWith}
use Rattle.ber_tlv.specs.Parts.{BeginsWithTag, BeginsWithLength}

-- bytes begin with one tag at most
pub one_tag : (a b x y : List ℕ) (t u : ℕ) → SpellsTag a t → SpellsTag b u → a ++ x ≡ b ++ y → (a ≡ b) × (t ≡ u) × (x ≡ y)
one_tag [] b x y t u p q e = absurd p
one_tag (a ∷ []) [] x y t u p q e = absurd q
one_tag (a ∷ []) (b ∷ []) x y t u p q e = (cc, cc, cc)
one_tag (a ∷ []) (b ∷ c ∷ []) x y t u p q e = let h : a ≡ b = cc in absurd (omega arith)
one_tag (a ∷ []) (b ∷ c ∷ d ∷ []) x y t u p q e = let h : a ≡ b = cc in absurd (omega arith)
one_tag (a ∷ []) (b ∷ c ∷ d ∷ f ∷ m) x y t u p q e = absurd q
one_tag (a ∷ g ∷ []) [] x y t u p q e = absurd q
one_tag (a ∷ g ∷ []) (b ∷ []) x y t u p q e = let h : a ≡ b = cc in absurd (omega arith)
one_tag (a ∷ g ∷ []) (b ∷ c ∷ []) x y t u p q e = (cc, cc, cc)
one_tag (a ∷ g ∷ []) (b ∷ c ∷ d ∷ []) x y t u p q e = let h : g ≡ c = cc in absurd (omega arith)
one_tag (a ∷ g ∷ []) (b ∷ c ∷ d ∷ f ∷ m) x y t u p q e = absurd q
one_tag (a ∷ g ∷ i ∷ []) [] x y t u p q e = absurd q
one_tag (a ∷ g ∷ i ∷ []) (b ∷ []) x y t u p q e = let h : a ≡ b = cc in absurd (omega arith)
one_tag (a ∷ g ∷ i ∷ []) (b ∷ c ∷ []) x y t u p q e = let h : g ≡ c = cc in absurd (omega arith)
one_tag (a ∷ g ∷ i ∷ []) (b ∷ c ∷ d ∷ []) x y t u p q e = (cc, cc, cc)
one_tag (a ∷ g ∷ i ∷ []) (b ∷ c ∷ d ∷ f ∷ m) x y t u p q e = absurd q
one_tag (a ∷ g ∷ i ∷ j ∷ n) b x y t u p q e = absurd p

-- the same of a length
pub one_length : (a b x y : List ℕ) (t u : ℕ) → SpellsLength a t → SpellsLength b u → a ++ x ≡ b ++ y → (a ≡ b) × (t ≡ u) × (x ≡ y)
one_length [] b x y t u p q e = absurd p
one_length (a ∷ []) [] x y t u p q e = absurd q
one_length (a ∷ []) (b ∷ []) x y t u p q e = (cc, cc, cc)
one_length (a ∷ []) (b ∷ c ∷ []) x y t u p q e = let h : a ≡ b = cc in absurd (omega arith)
one_length (a ∷ []) (b ∷ c ∷ d ∷ []) x y t u p q e = let h : a ≡ b = cc in absurd (omega arith)
one_length (a ∷ []) (b ∷ c ∷ d ∷ f ∷ []) x y t u p q e = let h : a ≡ b = cc in absurd (omega arith)
one_length (a ∷ []) (b ∷ c ∷ d ∷ f ∷ k ∷ m) x y t u p q e = absurd q
one_length (a ∷ g ∷ []) [] x y t u p q e = absurd q
one_length (a ∷ g ∷ []) (b ∷ []) x y t u p q e = let h : a ≡ b = cc in absurd (omega arith)
one_length (a ∷ g ∷ []) (b ∷ c ∷ []) x y t u p q e = (cc, cc, cc)
one_length (a ∷ g ∷ []) (b ∷ c ∷ d ∷ []) x y t u p q e = let h : a ≡ b = cc in absurd (omega arith)
one_length (a ∷ g ∷ []) (b ∷ c ∷ d ∷ f ∷ []) x y t u p q e = let h : a ≡ b = cc in absurd (omega arith)
one_length (a ∷ g ∷ []) (b ∷ c ∷ d ∷ f ∷ k ∷ m) x y t u p q e = absurd q
one_length (a ∷ g ∷ i ∷ []) [] x y t u p q e = absurd q
one_length (a ∷ g ∷ i ∷ []) (b ∷ []) x y t u p q e = let h : a ≡ b = cc in absurd (omega arith)
one_length (a ∷ g ∷ i ∷ []) (b ∷ c ∷ []) x y t u p q e = let h : a ≡ b = cc in absurd (omega arith)
one_length (a ∷ g ∷ i ∷ []) (b ∷ c ∷ d ∷ []) x y t u p q e = (cc, cc, cc)
one_length (a ∷ g ∷ i ∷ []) (b ∷ c ∷ d ∷ f ∷ []) x y t u p q e = let h : a ≡ b = cc in absurd (omega arith)
one_length (a ∷ g ∷ i ∷ []) (b ∷ c ∷ d ∷ f ∷ k ∷ m) x y t u p q e = absurd q
one_length (a ∷ g ∷ i ∷ j ∷ []) [] x y t u p q e = absurd q
one_length (a ∷ g ∷ i ∷ j ∷ []) (b ∷ []) x y t u p q e = let h : a ≡ b = cc in absurd (omega arith)
one_length (a ∷ g ∷ i ∷ j ∷ []) (b ∷ c ∷ []) x y t u p q e = let h : a ≡ b = cc in absurd (omega arith)
one_length (a ∷ g ∷ i ∷ j ∷ []) (b ∷ c ∷ d ∷ []) x y t u p q e = let h : a ≡ b = cc in absurd (omega arith)
one_length (a ∷ g ∷ i ∷ j ∷ []) (b ∷ c ∷ d ∷ f ∷ []) x y t u p q e = (cc, cc, cc)
one_length (a ∷ g ∷ i ∷ j ∷ []) (b ∷ c ∷ d ∷ f ∷ k ∷ m) x y t u p q e = absurd q
one_length (a ∷ g ∷ i ∷ j ∷ l ∷ n) b x y t u p q e = absurd p

-- what a TLV begins with
pub tag_of : {bytes : List ℕ} {t : ℕ} {v r : List ℕ} → (p : BeginsWith bytes t v r) → BeginsWithTag bytes t (p.spelled.size ++ v ++ r)
tag_of {bytes} {t} {v} {r} p = record {
  prefix = p.spelled.prefix;
  tagged = p.spelled.tagged;
  whole = p.whole ∙ ap (λ xs. xs ++ r) p.spelled.whole ∙ simp append_assoc;
}

pub length_of : {bytes : List ℕ} {t : ℕ} {v r : List ℕ} → (p : BeginsWith bytes t v r) → BeginsWithLength (p.spelled.size ++ v ++ r) (length v) (v ++ r)
length_of {bytes} {t} {v} {r} p = record { size = p.spelled.size; sized = p.spelled.sized; whole = simp append_assoc }

pub same_tag : {bytes x y : List ℕ} {t u : ℕ} → BeginsWithTag bytes t x → BeginsWithTag bytes u y → (t ≡ u) × (x ≡ y)
same_tag {bytes} {x} {y} {t} {u} p q =
    let h = one_tag p.prefix q.prefix x y t u p.tagged q.tagged (sym p.whole ∙ q.whole) in (h.1, h.2)

pub same_length : {bytes x y : List ℕ} {t u : ℕ} → BeginsWithLength bytes t x → BeginsWithLength bytes u y → (t ≡ u) × (x ≡ y)
same_length {bytes} {x} {y} {t} {u} p q =
    let h = one_length p.size q.size x y t u p.sized q.sized (sym p.whole ∙ q.whole) in (h.1, h.2)

-- lists of one length before equal lists are equal, and so is what is behind them
pub same_prefix : (v w x y : List ℕ) → length v ≡ length w → v ++ x ≡ w ++ y → (v ≡ w) × (x ≡ y)
same_prefix [] [] x y n e = (refl, e)
same_prefix [] (b ∷ w) x y n e = absurd (omega arith)
same_prefix (a ∷ v) [] x y n e = absurd (omega arith)
same_prefix (a ∷ v) (b ∷ w) x y n e =
    let h : (v ≡ w) × (x ≡ y) = same_prefix v w x y (omega arith) cc in
    let i : a ≡ b = cc in
    (cc, h.1)

-- bytes begin with one TLV at most
pub one_tlv : (bytes : List ℕ) (t u : ℕ) (v w x y : List ℕ) → BeginsWith bytes t v x → BeginsWith bytes u w y → (t ≡ u) × (v ≡ w) × (x ≡ y)
one_tlv bytes t u v w x y p q =
    let h = same_tag (tag_of p) (tag_of q) in
    let k = same_length (subst (λ s. BeginsWithLength s (length v) (v ++ x)) h.1 (length_of p)) (length_of q) in
    let j = same_prefix v w x y k.0 k.1 in
    (h.0, j.0, j.1)
