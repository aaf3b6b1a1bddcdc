use Rattle.std.proofs.Common.{◌≡◌, ◌≢◌, ℕ, ◌<◌, length, set, refl, sym, ◌∙◌, ap, subst, Some, arith}
use Rattle.std.proofs.Common.{⊎_elim}
use Rattle.std.specs.Prelude.{slice_get}
use Rattle.std.proofs.lemmas.Bool.{cases_eq}
use Rattle.std.proofs.lemmas.List.{length-set}
use Rattle.std.proofs.lemmas.Option.{same_Some, slice_get_read}
use Rattle.uicc_tree.specs.Arena.{IsPruned}
use Rattle.uicc_tree.specs.declared.arena.Slot.{Slot}
use Rattle.uicc_tree.proofs.SlotLemmas.{get-set_other, get-set_same}
use Rattle.uicc_tree.proofs.arena.Arena.prune_all.Goals as goal

pub loop-node-preserved : goal.loop-node-preserved
loop-node-preserved c =
    let slots = c.loop-node.self.slots in
    let at = c.loop-node.node in
    let was = c.index_mut.result.now in
    let new = c.prune.new.slot in
    let within : at < length slots.items = omega (arith, c.loop-node-test.true, c.len-node-end.ensures, c.loop-node.invariant.1, c.args.self.now.slots.ok.0) in
    let here : slice_get slots.items at ≡ Some was = slice_get_read slots.items (length slots.items) at was refl within c.index_mut.ensures.value in (
      λ node slot there before. ⊎_elim
          (λ same.
          let is : was ≡ slot = same_Some was slot (sym here ∙ c.loop-node.invariant.3 at (omega arith) ∙ ap (λ (k : ℕ). slice_get c.args.self.now.slots.items k) (sym same) ∙ there) in (
            new,
            ap (λ (k : ℕ). slice_get (set slots.items at new) k) same ∙ get-set_same slots.items at new within,
            subst (λ (s : Slot). IsPruned c.args.top.now c.args.gone s new) is c.prune.ensures,
          ))
          (λ apart.
          let it = c.loop-node.invariant.0 node slot there (omega (arith, before, apart)) in
          (it.0, get-set_other slots.items at new node apart ∙ it.1, it.2))
          (cases_eq node at),
      length-set slots.items at new ∙ c.loop-node.invariant.1,
      c.loop-node.invariant.2,
      λ other past.
          let apart : other ≢ at = omega (arith, past) in
          get-set_other slots.items at new other apart ∙ c.loop-node.invariant.3 other (omega (arith, past)),
    )

pub returns-clause-slots : goal.returns-clause-slots
returns-clause-slots c node slot there within =
    c.loop-node.invariant.0 node slot there (omega (arith, within, c.loop-node-test.false, c.len-node-end.ensures, c.args.self.now.slots.ok.0))
