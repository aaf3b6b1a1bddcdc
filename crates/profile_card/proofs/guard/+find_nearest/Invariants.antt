use Rattle.std.specs.Prelude.{length}
use Rattle.profile_card.proofs.guard.+find_nearest.Given as goal

abbrev pub decreases-find_nearest : goal.decreases-find_nearest
decreases-find_nearest l = length l.directory.now
