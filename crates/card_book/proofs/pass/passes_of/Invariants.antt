use Rattle.card_book.specs.Pass.{AreOfPorts}
use Rattle.card_book.proofs.pass.passes_of.Given as goal

abbrev pub invariant-loop-port : goal.invariant-loop-port
invariant-loop-port g l = AreOfPorts l.port l.passes.items
