use Rattle.std.proofs.Common.{◌∙◌, sym, ap, subst}
use Rattle.card_book.specs.Marks.{HasPass}
use Rattle.card_book.proofs.MarkLemmas.{next_port_marks}
use Rattle.card_book.proofs.marks.mark_each.Goals as goal

pub mark-requires : goal.mark-requires
mark-requires g c =
    subst (λ passes. HasPass passes c.loop-port.port) (sym c.loop-port.invariant.passes)
    (c.requires c.loop-port.port c.loop-port-test.true)

pub loop-port-preserved : goal.loop-port-preserved
loop-port-preserved g c =
    let lanes = g.M.Marks in
    let before = c.loop-port.invariant in
    let mark = c.mark.ensures in record {
      marked = next_port_marks lanes.marked c.args.pen.now.history c.loop-port.port
          c.args.lanes.now c.loop-port.lanes c.mark.new.self before.marked
          (subst (λ history. lanes.marked c.loop-port.lanes c.loop-port.port history
          c.mark.new.self) (ap (λ pen. pen.history) before.pen) mark.marked);
      passes = mark.passes ∙ before.passes;
      pen = mark.pen ∙ before.pen;
    }
