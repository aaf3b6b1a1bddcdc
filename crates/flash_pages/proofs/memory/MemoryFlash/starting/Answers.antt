use Rattle.std.proofs.Common.{◌≡◌, ℕ, List, length, ap, sym, ◌∙◌, subst}
use Rattle.flash_pages.specs.Past.{Past, Since, content}
use Rattle.flash_pages.proofs.memory.MemoryFlash.starting.Goals as goal

pub invariant_of-result : goal.invariant_of-result
invariant_of-result c =
    let past_is = c.in_ok-new.ensures.past in
    let Sized : Past → Type 0 =
    λ past. (t : ℕ) (image : List ℕ) → Since past.first past.calls t image
    → length image ≡ 9965568 in
    record {
      sized = c.requires.size;
      replays = λ known. ap (λ (past : Past). content past.first past.calls) past_is
          ∙ c.requires.first;
      images_sized = λ known. subst Sized (sym past_is)
          (λ t image is. ap length (is ∙ c.requires.first) ∙ c.requires.size);
    }
