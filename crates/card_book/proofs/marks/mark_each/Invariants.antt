use Rattle.std.proofs.Common.{◌≡◌}
use Rattle.std.specs.List.{range_with_len}
use Rattle.card_book.specs.Marks.{MarkedInTurn}
use Rattle.card_book.proofs.marks.mark_each.Given as goal

abbrev pub invariant-loop-port : goal.invariant-loop-port
invariant-loop-port g l = record {
  marked : MarkedInTurn g.M.Marks.marked l.initial.pen.history (range_with_len 0 l.port)
      l.initial.lanes l.lanes;
  passes : g.M.Marks.passes l.lanes ≡ g.M.Marks.passes l.initial.lanes;
  pen : l.pen ≡ l.initial.pen;
}
