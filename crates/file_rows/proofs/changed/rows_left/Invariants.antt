use Rattle.std.proofs.Common.{◌≡◌, take, filter, not}
use Rattle.file_rows.specs.Path.{stands_below}
use Rattle.file_rows.proofs.changed.rows_left.Given as goal

abbrev pub invariant-loop-row : goal.invariant-loop-row
invariant-loop-row l = l.left.items ≡ filter (λ row. not (stands_below l.top row.head.path)) (take l.row-index l.rows)
