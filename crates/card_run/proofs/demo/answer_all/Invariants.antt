use Rattle.std.proofs.Common.{◌≡◌, ◌≤◌, length}
use Rattle.card_run.proofs.DemoLemmas.{RunSoFar, statements_before}
use Rattle.card_run.proofs.demo.answer_all.Given as goal

abbrev pub invariant-loop-index : goal.invariant-loop-index
invariant-loop-index g l = record {
  so_far : RunSoFar (statements_before l.index l.script) l.card (g.K.Sink.written l.fn.out) (g.K.Sink.written l.out) l.block.items;
  counted : l.number ≡ length (statements_before l.index l.script);
  count : g.K.Sink.faults l.fn.out ≤ g.K.Sink.faults l.out;
}
