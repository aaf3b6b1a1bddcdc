use Rattle.std.proofs.Common.{◌≡◌, length}
use Rattle.access_rules.specs.KeySet.{has}
use Rattle.access_rules.proofs.Passing.{decided_by}
use Rattle.std.specs.Prelude.{None}
use Rattle.access_rules.proofs.rules.decide.Given as goal

abbrev pub invariant-loop-rest : goal.invariant-loop-rest
invariant-loop-rest l = decided_by l.mode (has l.met) None l.bytes ≡ decided_by l.mode (has l.met) l.decided l.rest

abbrev pub decreases-loop-rest : goal.decreases-loop-rest
decreases-loop-rest l = length l.rest
