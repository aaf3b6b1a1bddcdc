use Rattle.std.proofs.Common.{◌∙◌}
use Rattle.card_journal.proofs.PoolSizeLemmas.{cut-smaller, widen-larger}
use Rattle.card_journal.proofs.pool.edit.resize_at.Goals as goal

pub returns-then-new_size-size-clause-items : goal.returns-then-new_size-size-clause-items
returns-then-new_size-size-clause-items c = c.cut_at.ensures.items
    ∙ cut-smaller c.args.start c.args.size c.args.new_size c.args.bodies.now.items c.requires.within c.if-new_size-size.true

pub returns-else-new_size-size-clause-items : goal.returns-else-new_size-size-clause-items
returns-else-new_size-size-clause-items c = c.widen_at.ensures.items
    ∙ widen-larger c.args.start c.args.size c.args.new_size c.args.bodies.now.items c.requires.within c.if-new_size-size.false
