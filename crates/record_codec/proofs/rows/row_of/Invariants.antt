use Rattle.std.proofs.Common.{◌≡◌, drop}
use Rattle.file_rows.specs.Content.{file_at}
use Rattle.record_codec.proofs.rows.row_of.Given as goal

abbrev pub invariant-loop-place : goal.invariant-loop-place
invariant-loop-place l = file_at l.path (drop l.place l.rows) ≡ file_at l.path l.rows
