use Rattle.std.proofs.Common.{rules, map}
use Rattle.std.proofs.lemmas.Fn.{filter_same}
use Rattle.uicc_tree.specs.Arena.{mark_at}
use Rattle.uicc_tree.proofs.removal.leave_out_dead.Goals as goal

pub returns : goal.returns
returns c =
    filter_same _ (mark_at (map (λ slot. slot.live) c.args.slots.now)) _ (λ x b f' k. search rules) c.args.order.now.items c.retain.new.self.items c.retain.ensures.filtered
