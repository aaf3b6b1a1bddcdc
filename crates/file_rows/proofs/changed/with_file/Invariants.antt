use Rattle.std.proofs.Common.{◌≡◌, take}
use Rattle.file_rows.specs.Change.{file_after, with_file}
use Rattle.file_rows.proofs.changed.with_file.Given as goal

abbrev pub invariant-loop-row : goal.invariant-loop-row
invariant-loop-row l = l.after.items ≡ with_file l.path (file_after l.change) (take l.row-index l.rows)
