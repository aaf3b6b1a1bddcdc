use Rattle.std.proofs.Common.{◌+◌, ◌*◌, ◌≤◌, ℕ, List, Some, Ok, true, false, length, refl, sym, ap}
use Rattle.std.proofs.Common.{◌∙◌, arith}
use Rattle.std.proofs.lemmas.Bool.{false≢true}
use Rattle.std.proofs.lemmas.List.{with_items_is}
use Rattle.flash_pages.specs.declared.plan.Outcome.{Outcome}
use Rattle.flash_pages.specs.Bytes.{blank, patch}
use Rattle.flash_pages.specs.Left.{left_by, with_left}
use Rattle.flash_pages.specs.Past.{Past, Write, after_call}
use Rattle.flash_pages.specs.Plan.{next_outcome}
use Rattle.flash_pages.proofs.Patches.{length-blank, length-patch}
use Rattle.flash_pages.proofs.MemoryCalls.{IsKept, Changes-memory, kept_after, content-write}
use Rattle.flash_pages.proofs.MemoryCalls.{erased_block, left_size, is_done-is, not_ok}
use Rattle.flash_pages.proofs.memory.MemoryFlashFlash.erase.Goals as goal

pub returns-in_err-begin-clause-changes : goal.returns-in_err-begin-clause-changes
returns-in_err-begin-clause-changes c =
    let old = c.args.self.now in
    let at = 4096 * c.args.block in
    let left = left_by (next_outcome old.power) old.history.torn (blank 4096) in
    let fits : at + 4096 ≤ length old.bytes.items = omega (arith, c.requires, old.sized) in
    let err = c.in_err-begin.ensures.err in
    Changes-memory old.history.past c.begin.new.self.history.past at 4096 left false old.bytes.items
    _ (blank 4096) _ _
    _ _ _ _ c.from_residual.result err.1 old.replays err.0 (length-blank 4096) fits
    (left_size (next_outcome old.power) old.history.torn 4096) (λ says. absurd (false≢true says))
    (not_ok c.from_residual.result c.from_residual.ensures.0)
    (omega (arith, c.begin.ensures.programmed))
    (omega (arith, c.begin.ensures.erased)) c.begin.ensures.count

pub invariant_of-self-2 : goal.invariant_of-self-2
invariant_of-self-2 c =
    let old = c.args.self.now in
    let at = 4096 * c.args.block in
    let call = Write at 4096 (Some (blank 4096)) true in
    let fits : at + length (blank 4096) ≤ length old.bytes.items =
    omega (arith, c.requires, old.sized, length-blank 4096) in
    let past_is = c.keep.ensures.past
    ∙ ap (λ (past : Past). after_call past call) c.in_ok-begin.ensures.ok.1 in
    let erased =
    erased_block old.bytes.items c.deref_mut.result.now c.tear.new.content at c.tear.ensures
    (c.deref_mut.ensures.value ∙ c.in_ok-begin.ensures.ok.0) in
    let items =
    with_items_is c.begin.new.self.bytes c.tear.new.content
    (c.tear.auto.content ∙ c.deref_mut.ensures.len) ∙ erased in
    let sized = ap length items ∙ length-patch old.bytes.items at (blank 4096) fits ∙ old.sized in
    let before : IsKept 9965568 old.history.past old.bytes.items =
    record { replays = old.replays; images_sized = old.images_sized } in
    let after =
    kept_after 9965568 old.history.past c.keep.new.self.past call old.bytes.items _ past_is before
    (λ known. content-write old.history.past.first at 4096
    (Some (blank 4096)) true old.history.past.calls
    ∙ ap (λ (l : List ℕ). patch l at (blank 4096)) (old.replays known) ∙ sym items)
    sized in
    record { sized = sized; replays = after.replays; images_sized = after.images_sized }

pub returns-clause-changes : goal.returns-clause-changes
returns-clause-changes c =
    let old = c.args.self.now in
    let at = 4096 * c.args.block in
    let call = Write at 4096 (Some (blank 4096)) true in
    let fits : at + 4096 ≤ length old.bytes.items = omega (arith, c.requires, old.sized) in
    let past_is = c.keep.ensures.past
    ∙ ap (λ (past : Past). after_call past call) c.in_ok-begin.ensures.ok.1 in
    let erased =
    erased_block old.bytes.items c.deref_mut.result.now c.tear.new.content at c.tear.ensures
    (c.deref_mut.ensures.value ∙ c.in_ok-begin.ensures.ok.0) in
    let items =
    with_items_is c.begin.new.self.bytes c.tear.new.content
    (c.tear.auto.content ∙ c.deref_mut.ensures.len) ∙ erased in
    Changes-memory old.history.past c.keep.new.self.past at 4096
    (Some (blank 4096)) true old.bytes.items _
    (blank 4096) _ _ _ _ _ _ (Ok tt) past_is old.replays items (length-blank 4096) fits
    (length-blank 4096)
    (λ says. refl) refl (omega (arith, c.begin.ensures.programmed))
    (omega (arith, c.begin.ensures.erased))
    c.begin.ensures.count

pub returns-clause-left : goal.returns-clause-left
returns-clause-left c =
    let old = c.args.self.now in
    let at = 4096 * c.args.block in
    let erased =
    erased_block old.bytes.items c.deref_mut.result.now c.tear.new.content at c.tear.ensures
    (c.deref_mut.ensures.value ∙ c.in_ok-begin.ensures.ok.0) in
    let is_done = is_done-is (next_outcome old.power) (sym c.in_ok-begin.ensures.answer) in
    with_items_is c.begin.new.self.bytes c.tear.new.content
    (c.tear.auto.content ∙ c.deref_mut.ensures.len) ∙ erased
    ∙ ap (λ (o : Outcome). with_left old.bytes.items at (left_by o old.history.torn (blank 4096)))
    (sym is_done)
