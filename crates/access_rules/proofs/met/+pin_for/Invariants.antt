use Rattle.std.specs.Prelude.{length}
use Rattle.access_rules.proofs.met.+pin_for.Given as goal

abbrev pub decreases-pin_for : goal.decreases-pin_for
decreases-pin_for l = length l.directory.now
