use Rattle.std.proofs.Common.{◌≡◌, ◌+◌, drop}
use Rattle.file_rows.specs.Content.{use_of}
use Rattle.file_rows.proofs.content.used_by.Given as goal

-- what is counted and what is left are all
abbrev pub invariant-loop-row : goal.invariant-loop-row
invariant-loop-row l = l.sum + use_of (drop l.row-index l.rows) ≡ use_of l.rows
