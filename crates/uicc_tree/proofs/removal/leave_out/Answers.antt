use Rattle.std.proofs.Common.{rules, not, ◌==◌}
use Rattle.uicc_tree.proofs.FilterLemmas.{filter_from_turns}
use Rattle.uicc_tree.proofs.removal.leave_out.Goals as goal

pub returns : goal.returns
returns c =
    filter_from_turns _ (λ child. not (child == c.args.gone)) _ (λ x b t y k. search rules) c.args.children.now.items c.retain.new.self.items c.retain.ensures.filtered
