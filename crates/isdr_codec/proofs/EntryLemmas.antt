-- Bytes to which data objects are appended one after another.
use Rattle.std.proofs.Common.{◌≡◌, ℕ, List, ◌++◌, ◌∙◌, ap, append_assoc}

-- a tag, a length and a value
pub one_object : (a b c d tag size value : List ℕ) → b ≡ a ++ tag → c ≡ b ++ size → d ≡ c ++ value
    → d ≡ a ++ (tag ++ size ++ value)
one_object a b c d tag size value p q r =
    r ∙ ap (λ x. x ++ value) (q ∙ ap (λ x. x ++ size) p ∙ append_assoc a tag size) ∙ append_assoc a
    (tag ++ size) value

-- four of them
pub four : (a b c d e w x y z : List ℕ) → b ≡ a ++ w → c ≡ b ++ x → d ≡ c ++ y → e ≡ d ++ z
    → e ≡ a ++ w ++ x ++ y ++ z
four a b c d e w x y z p q r s =
    s ∙ ap (λ o. o ++ z) (r ∙ ap (λ o. o ++ y) (q ∙ ap (λ o. o ++ x) p))
