use Rattle.std.proofs.Common.{◌≡◌, ◌+◌, ◌≤◌, ℕ, List, Some, Ok, true, false, length, refl, sym, ap}
use Rattle.std.proofs.Common.{◌∙◌, arith, rules}
use Rattle.std.proofs.lemmas.Bool.{false≢true}
use Rattle.std.proofs.lemmas.List.{with_items_is}
use Rattle.flash_pages.specs.Bytes.{blank, patch}
use Rattle.flash_pages.specs.Left.{left_by}
use Rattle.flash_pages.specs.Past.{Past, Write, after_call}
use Rattle.flash_pages.specs.Plan.{next_outcome}
use Rattle.flash_pages.proofs.MemoryCalls.{Changes-memory, left_size, not_ok}
use Rattle.flash_pages.proofs.memory.MemoryFlashFlash.program.Goals as goal

pub returns-in_err-begin-clause-changes : goal.returns-in_err-begin-clause-changes
returns-in_err-begin-clause-changes c =
    let old = c.args.self.now in
    let n = length c.args.bytes.now in
    let left = left_by (next_outcome old.power) old.history.torn (blank n) in
    let fits : c.args.at + n ≤ length old.bytes.items =
    omega (arith, c.requires.piece.inside, old.sized) in
    let err = c.in_err-begin.ensures.err in
    Changes-memory old.history.past c.begin.new.self.history.past c.args.at n left false
    old.bytes.items _
    c.args.bytes.now _ _ _ _ _ _ c.from_residual.result err.1 old.replays err.0 refl fits
    (left_size (next_outcome old.power) old.history.torn n) (λ says. absurd (false≢true says))
    (not_ok c.from_residual.result c.from_residual.ensures.0)
    (omega (arith, c.begin.ensures.programmed))
    (omega (arith, c.begin.ensures.erased)) c.begin.ensures.count

pub returns-clause-changes : goal.returns-clause-changes
returns-clause-changes c =
    let old = c.args.self.now in
    let at = c.args.at in
    let kept = c.try_extend_from_slice.new.self.items in
    let kept_is : kept ≡ c.args.bytes.now = search rules in
    let fits : at + length kept ≤ length old.bytes.items =
    omega (arith, c.requires.piece.inside, old.sized, ap length kept_is) in
    let call = Write at (length kept) (Some kept) true in
    let past_is = c.keep.ensures.past
    ∙ ap (λ (past : Past). after_call past call) c.in_ok-begin.ensures.ok.1 in
    let put : c.put.new.content ≡ patch old.bytes.items at kept =
    c.put.ensures
    ∙ ap (λ (l : List ℕ). patch l at c.args.bytes.now)
    (c.deref_mut.ensures.value ∙ c.in_ok-begin.ensures.ok.0)
    ∙ ap (patch old.bytes.items at) (sym kept_is) in
    let items = with_items_is c.begin.new.self.bytes c.put.new.content
    (c.put.auto.content ∙ c.deref_mut.ensures.len) in
    Changes-memory old.history.past c.keep.new.self.past at (length kept)
    (Some kept) true old.bytes.items _
    c.args.bytes.now _ _ _ _ _ _ (Ok tt) past_is old.replays (items ∙ put)
    (ap length (sym kept_is)) fits refl
    (λ says. ap Some kept_is) refl (omega (arith, c.begin.ensures.programmed))
    (omega (arith, c.begin.ensures.erased)) c.begin.ensures.count
