use Rattle.std.proofs.Common.{◌≡◌, length}
use Rattle.case_table.specs.CaseRows.{differ}
use Rattle.case_table.proofs.case_rows.CaseRows.keys_differ.Given as goal

-- no key so far stands there again
abbrev pub invariant-loop-key : goal.invariant-loop-key
invariant-loop-key g l = differ l.rest ≡ differ l.self.keys

abbrev pub decreases-loop-key : goal.decreases-loop-key
decreases-loop-key g l = length l.rest
