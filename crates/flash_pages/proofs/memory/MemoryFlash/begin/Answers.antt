use Rattle.std.proofs.Common.{◌≡◌, ℕ, List, Option, Some, false, ap, sym, ◌∙◌}
use Rattle.std.proofs.lemmas.List.{with_items_is}
use Rattle.flash_pages.specs.declared.plan.Outcome.{Outcome}
use Rattle.flash_pages.specs.Bytes.{blank, patch, repeated}
use Rattle.flash_pages.specs.Left.{left_by, with_left}
use Rattle.flash_pages.specs.Past.{Write, after_call}
use Rattle.flash_pages.specs.Plan.{next_outcome}
use Rattle.flash_pages.proofs.MemoryCalls.{left_torn}
use Rattle.flash_pages.proofs.memory.MemoryFlash.begin.Goals as goal

pub returns-in-Torn-clause-err : goal.returns-in-Torn-clause-err
returns-in-Torn-clause-err c =
    let old = c.args.self.now in
    let left : left_by (next_outcome old.power) old.history.torn (blank c.args.len) ≡ Some
    (repeated old.history.torn c.args.len) =
    ap (λ (o : Outcome). left_by o old.history.torn (blank c.args.len))
    (sym c.in-Torn.ensures.outcome) ∙ left_torn old.history.torn c.args.len in
    let torn : c.tear.new.content ≡ patch old.bytes.items c.args.at
    (repeated old.history.torn c.args.len) =
    c.tear.ensures
    ∙ ap (λ (l : List ℕ). patch l c.args.at
    (repeated c.torn.result.now c.args.len)) c.deref_mut.ensures.value
    ∙ ap (λ (t : List ℕ). patch old.bytes.items c.args.at (repeated t c.args.len)) c.torn.ensures
    in (
      with_items_is old.bytes c.tear.new.content (c.tear.auto.content ∙ c.deref_mut.ensures.len)
          ∙ torn ∙ ap (with_left old.bytes.items c.args.at) (sym left),
      c.keep.ensures.past
          ∙ ap (λ (l : Option (List ℕ)). after_call old.history.past
          (Write c.args.at c.args.len l false)) (sym left),
    )
