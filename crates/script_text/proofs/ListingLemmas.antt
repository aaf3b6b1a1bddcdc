-- The contents of the profiles that a listing shows.
use Rattle.std.proofs.Common.{◌≡◌, ℕ, ◌<◌, ◌^◌, Bool, true, false, cond, nat_eq, List, [], ◌∷◌}
use Rattle.std.proofs.Common.{Option, Some, None, Bor, subst, sym, arith}
use Rattle.std.specs.List.{AllByRecursion}
use Rattle.std.specs.Option.{option_copied}
use Rattle.std.specs.Prelude.{IfNone, IfSome}
use Rattle.file_rows.specs.Content.{IsValid, use_of}
use Rattle.file_rows.specs.declared.content.Content.{Content}
use Rattle.record_codec.specs.Heads.{content_at}
use Rattle.record_codec.specs.declared.profile.ProfileHead.{ProfileHead}

-- a content that is held is valid
held_content-valid : (number : ℕ) (profiles : List ProfileHead) (contents : List Content) (content : Content) → AllByRecursion IsValid contents
    → content_at number profiles contents ≡ Some content → IsValid content
held_content-valid number [] contents content valid e = absurd (cc)
held_content-valid number (head ∷ heads) [] content valid e = absurd (cc)
held_content-valid number (head ∷ heads) (its ∷ contents) content valid e =
    let step : (b : Bool) → cond b (Some its) (content_at number heads contents) ≡ Some content → IsValid content
    = λ b. elim b as (λ b. cond b (Some its) (content_at number heads contents) ≡ Some content → IsValid content) [
      | true ↦ λ e. let is : its ≡ content = cc in subst IsValid is valid.0
      | false ↦ λ e. held_content-valid number heads contents content valid.1 e
    ]
    in step (nat_eq head.number number) e

-- the content that was found is that of the number
pub content_found : (number : ℕ) (profiles : List ProfileHead) (contents : List Content) (found : Option (Bor Content))
    → IfSome found (λ content. content_at number profiles contents ≡ Some content.now)
    → IfNone found (content_at number profiles contents ≡ None)
    → option_copied found ≡ content_at number profiles contents
content_found number profiles contents None some none = sym none
content_found number profiles contents (Some content) some none = sym some

-- and small
pub content_small : (number : ℕ) (profiles : List ProfileHead) (contents : List Content) (found : Option (Bor Content))
    → AllByRecursion IsValid contents → IfSome found (λ content. content_at number profiles contents ≡ Some content.now)
    → IfSome found (λ content. use_of content.now.rows < 2 ^ 32)
content_small number profiles contents None valid some = tt
content_small number profiles contents (Some content) valid some =
    omega (arith, (held_content-valid number profiles contents content.now valid some).quota)
