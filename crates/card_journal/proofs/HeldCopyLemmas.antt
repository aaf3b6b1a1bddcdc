-- The contents of a card copied one after another.
use Rattle.std.proofs.Common.{◌≡◌, ℕ, zero, suc, ◌+◌, List, [], ◌∷◌, ◌++◌, take, Some, IsSomeAnd}
use Rattle.std.proofs.Common.{refl, sym, ◌∙◌, ap, subst, arith}
use Rattle.std.specs.Prelude.{slice_get}
use Rattle.file_rows.specs.declared.content.Content.{Content}
use Rattle.record_codec.specs.Heads.{held_content}
use Rattle.record_codec.specs.IsDurable.{IsDurable}
use Rattle.record_codec.specs.declared.durable.Durable.{Durable}
use Rattle.record_codec.specs.declared.profile.ProfileHead.{ProfileHead}
use Rattle.record_codec.proofs.HeldLemmas.{content_there}

take_there : (contents : List Content) (i : ℕ) (content : Content) → slice_get contents i ≡ Some content
    → take (suc i) contents ≡ take i contents ++ (content ∷ [])
take_there [] i content is = absurd (cc)
take_there (first ∷ contents) zero content is = let same : first ≡ content = cc in ap (λ (c : Content). c ∷ []) same
take_there (first ∷ contents) (suc i) content is = ap (λ (l : List Content). first ∷ l) (take_there contents i content is)

-- the content of the profile at a place is the next one of a copy that has those before it
pub copied_next : (held : Durable) (i : ℕ) (head : ProfileHead) (content : Content) → IsDurable held
    → slice_get held.heads.profiles i ≡ Some head → held_content head.number held ≡ Some content
    → take (i + 1) held.contents ≡ take i held.contents ++ (content ∷ [])
copied_next held i head content valid at is =
    let here = subst (λ o. IsSomeAnd o (λ (h : ProfileHead). h.number ≡ head.number)) (sym at) refl in
    let next : suc i ≡ i + 1 = omega arith in
    subst (λ (n : ℕ). take n held.contents ≡ take i held.contents ++ (content ∷ [])) next
    (take_there held.contents i content (sym (content_there head.number i held.heads.profiles held.contents valid.contents.pairs valid.heads.profiles.numbers here) ∙ is))
