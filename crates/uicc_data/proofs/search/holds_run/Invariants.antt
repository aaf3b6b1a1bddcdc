use Rattle.std.proofs.Common.{◌≡◌, drop}
use Rattle.uicc_data.specs.Search.{holds_run}
use Rattle.uicc_data.proofs.search.holds_run.Given as goal

-- no run begins before
abbrev pub invariant-loop-start : goal.invariant-loop-start
invariant-loop-start l = holds_run l.run (drop l.start l.bytes) ≡ holds_run l.run l.bytes
