use Rattle.std.proofs.Common.{◌≡◌, ◌≤◌, length}
use Rattle.isdr_codec.specs.Metadata.{targets_in}
use Rattle.isdr_codec.proofs.TargetLemmas.{and_left}
use Rattle.isdr_codec.proofs.metadata.targets_in.Given as goal

abbrev pub invariant-loop-rest : goal.invariant-loop-rest
invariant-loop-rest l =
    record { read : and_left l.targets l.rest ≡ targets_in l.fn.value; few : length l.targets ≤ 8 }

abbrev pub decreases-loop-rest : goal.decreases-loop-rest
decreases-loop-rest l = length l.rest
