-- The fields one after another.
use Rattle.std.proofs.Common.{◌≡◌, ℕ, List, [], ◌∷◌, ◌++◌, refl, sym, ◌∙◌, ap, append_assoc}
use Rattle.ber_tlv.specs.Tlv.{shortest}
use Rattle.ber_tlv.specs.Walk.{Object, spelled}

pub spelled-append : (xs ys : List Object) → spelled (xs ++ ys) ≡ spelled xs ++ spelled ys
spelled-append [] ys = refl
spelled-append (x ∷ xs) ys =
    ap (λ s. shortest x.tag x.value ++ s) (spelled-append xs ys) ∙ sym (append_assoc (shortest x.tag x.value) (spelled xs) (spelled ys))

regrouped : (a b n p l r z : List ℕ) → ((((((a ++ b) ++ n) ++ p) ++ l) ++ r) ++ z) ≡ a ++ (b ++ (((n ++ p) ++ (l ++ r)) ++ z))
regrouped a b n p l r z = simp append_assoc

apart : (names proprietary rules others : List Object) (life : Object)
    → spelled (((names ++ proprietary) ++ (life ∷ rules)) ++ others) ≡ ((spelled names ++ spelled proprietary) ++ (shortest life.tag life.value ++ spelled rules)) ++ spelled others
apart names proprietary rules others life =
    spelled-append ((names ++ proprietary) ++ (life ∷ rules)) others
    ∙ ap (λ s. s ++ spelled others) (spelled-append (names ++ proprietary) (life ∷ rules) ∙ ap (λ s. s ++ spelled (life ∷ rules)) (spelled-append names proprietary))

-- the list after each of seven steps
pub seven_steps : (descriptor id life : Object) (names proprietary rules others : List Object) (a b c d e f g : List ℕ)
    → a ≡ shortest descriptor.tag descriptor.value
    → b ≡ a ++ shortest id.tag id.value
    → c ≡ b ++ spelled names
    → d ≡ c ++ spelled proprietary
    → e ≡ d ++ shortest life.tag life.value
    → f ≡ e ++ spelled rules
    → g ≡ f ++ spelled others
    → g ≡ spelled (descriptor ∷ id ∷ (((names ++ proprietary) ++ (life ∷ rules)) ++ others))
seven_steps descriptor id life names proprietary rules others a b c d e f g h i j k l m n =
    n ∙ ap (λ s. s ++ spelled others) (m ∙ ap (λ s. s ++ spelled rules) (l ∙ ap (λ s. s ++ shortest life.tag life.value)
    (k ∙ ap (λ s. s ++ spelled proprietary) (j ∙ ap (λ s. s ++ spelled names) (i ∙ ap (λ s. s ++ shortest id.tag id.value) h)))))
    ∙ regrouped (shortest descriptor.tag descriptor.value) (shortest id.tag id.value) (spelled names) (spelled proprietary) (shortest life.tag life.value) (spelled rules) (spelled others)
    ∙ ap (λ s. shortest descriptor.tag descriptor.value ++ (shortest id.tag id.value ++ s)) (sym (apart names proprietary rules others life))
