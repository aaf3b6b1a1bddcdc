use Rattle.std.proofs.Common.{arith}
use Rattle.card_book.proofs.HistoryLemmas.{few_records}
use Rattle.card_book.proofs.pen.Pen.add_commit.Goals as goal

pub overflow_add-self : goal.overflow_add-self
overflow_add-self g c =
    let counted = c.self.invariant in
    omega (arith, counted.few, counted.commits_are, few_records c.self.inside.history)
