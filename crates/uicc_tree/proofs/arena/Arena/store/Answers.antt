use Rattle.std.proofs.Common.{arith, ◌≡◌, ℕ, ◌<◌, Bool, cond, List, ◌∷◌, [], ◌++◌, length, vec_len}
use Rattle.std.proofs.Common.{◌∙◌, ap, sym, ⊎_elim}
use Rattle.std.specs.Prelude.{slice_get, vec_capacity}
use Rattle.uicc_tree.specs.declared.arena.Slot.{Slot}
use Rattle.uicc_tree.proofs.SlotLemmas.{get-push_same, get-push_other, get-set_same, get-set_other}
use Rattle.uicc_tree.proofs.arena.Arena.store.Goals as goal

pub returns-in-Some-clause-stored : goal.returns-in-Some-clause-stored
returns-in-Some-clause-stored c = get-set_same c.args.self.now.slots.items c.in-Some.node c.args.slot c.in-Some.ensures.found.0

pub returns-in-Some-clause-others : goal.returns-in-Some-clause-others
returns-in-Some-clause-others c = get-set_other c.args.self.now.slots.items c.in-Some.node c.args.slot

pushed : (c : goal.Joined-push) → c.push.new.self.items ≡ c.args.self.now.slots.items ++ c.args.slot ∷ []
pushed c =
    let slots = c.args.self.now.slots in
    let room : vec_len slots < vec_capacity slots =
    ⊎_elim (λ free_node. absurd (c.in_default.ensures.none free_node.0 free_node.1)) (λ free. omega (arith, free.0, slots.ok.0)) c.requires.node in
    let ok = c.push.ensures.succeeds room in
    c.push.ensures.items ∙ ap (λ (b : Bool). cond b (slots.items ++ c.args.slot ∷ []) slots.items) ok

at_end : (c : goal.Joined-push) → c.len-node.result ≡ length c.args.self.now.slots.items
at_end c = c.len-node.ensures ∙ omega (arith, c.args.self.now.slots.ok.0)

pub returns-clause-stored : goal.returns-clause-stored
returns-clause-stored c =
    ap (λ (n : ℕ). slice_get c.push.new.self.items n) (at_end c)
    ∙ ap (λ (slots : List Slot). slice_get slots (length c.args.self.now.slots.items)) (pushed c)
    ∙ get-push_same c.args.self.now.slots.items c.args.slot

pub returns-clause-others : goal.returns-clause-others
returns-clause-others c n apart =
    ap (λ (slots : List Slot). slice_get slots n) (pushed c)
    ∙ get-push_other c.args.self.now.slots.items c.args.slot n (λ e. apart (e ∙ sym (at_end c)))
