use Rattle.std.proofs.Common.{◌≡◌, ◌+◌, ◌*◌, ◌≤◌, ◌++◌, length}
use Rattle.uicc_select.specs.Target.{ids_in}
use Rattle.uicc_select.proofs.naming.ids_in.Given as goal

abbrev pub invariant-loop-rest : goal.invariant-loop-rest
invariant-loop-rest l =
    (l.path ++ ids_in l.rest ≡ ids_in l.body) × (length l.path * 2 + length l.rest ≤ 8)

abbrev pub decreases-loop-rest : goal.decreases-loop-rest
decreases-loop-rest l = length l.rest
