use Rattle.std.proofs.Common.{arith, ap, length}
use Rattle.card_book.proofs.HistoryLemmas.{few_shared}
use Rattle.card_book.proofs.pen.Pen.add_shared.Goals as goal

pub overflow_add-self : goal.overflow_add-self
overflow_add-self g c =
    let counted = c.self.invariant in
    let room = c.requires in
    let same = ap length (ap (λ pen. pen.history) c.self.view_is) in
    omega (arith, room, same, counted.shared_are, few_shared c.self.inside.history)
