use Rattle.std.proofs.Common.{◌≡◌, List, filter, map, ◌∙◌, ap}
use Rattle.uicc_tree.specs.Arena.{mark_at}
use Rattle.uicc_tree.specs.declared.arena.Slot.{Slot}
use Rattle.uicc_tree.proofs.RemoveLemmas.{file_kept, rows_stay, tree_stays}
use Rattle.uicc_tree.proofs.arena.Arena.remove.Goals as goal
use Rattle.uicc_tree.proofs.arena.Arena.remove.Goals.{After-leave_out_dead}

order : (c : After-leave_out_dead) → c.leave_out_dead.new.order.items ≡ filter (mark_at (map (λ slot. slot.live) c.prune_all.new.self.slots.items)) c.args.self.now.order.items
order c =
    c.leave_out_dead.ensures
    ∙ ap (λ (slots : List Slot). filter (mark_at (map (λ slot. slot.live) slots)) c.prune_all.new.self.order.items) c.as_slice.ensures.value
    ∙ ap (λ o. filter (mark_at (map (λ slot. slot.live) c.prune_all.new.self.slots.items)) o.items) c.prune_all.ensures.order

pub returns-clause-arena : goal.returns-clause-arena
returns-clause-arena c =
    tree_stays c.args.self.now (record { slots = c.prune_all.new.self.slots; order = c.leave_out_dead.new.order }) c.args.gone c.args.top.now c.requires.arena c.requires.live c.requires.path c.prune_all.ensures.slots (order c) c.prune_all.ensures.few

pub returns-clause-rows : goal.returns-clause-rows
returns-clause-rows c =
    rows_stay c.args.self.now (record { slots = c.prune_all.new.self.slots; order = c.leave_out_dead.new.order }) c.args.gone c.args.top.now c.requires.arena c.requires.live c.requires.path c.prune_all.ensures.slots (order c) c.prune_all.ensures.few

pub returns-clause-stay : goal.returns-clause-stay
returns-clause-stay c =
    file_kept c.args.self.now (record { slots = c.prune_all.new.self.slots; order = c.leave_out_dead.new.order }) c.args.gone c.args.top.now c.requires.arena c.requires.live c.requires.path c.prune_all.ensures.slots (order c) c.prune_all.ensures.few
