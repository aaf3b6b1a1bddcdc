use Rattle.std.proofs.Common.{◌≡◌, ◌+◌, drop}
use Rattle.file_rows.specs.Content.{use_of}
use Rattle.file_rows.specs.declared.content.TheConstants.{QUOTA}
use Rattle.file_rows.proofs.valid.fit_quota.Given as goal

-- what is counted and what is left are the quota
abbrev pub invariant-loop-row : goal.invariant-loop-row
invariant-loop-row l = use_of l.rows + l.left ≡ QUOTA + use_of (drop l.row-index l.rows)
