use Rattle.std.proofs.Common.{◌↔◌, drop}
use Rattle.file_rows.specs.Content.{IsAtHome, heads_of}
use Rattle.file_rows.proofs.pins.is_at_home.Given as goal

abbrev pub invariant-loop-row : goal.invariant-loop-row
invariant-loop-row l = IsAtHome (heads_of (drop l.row-index l.rows)) l.pin ↔ IsAtHome (heads_of l.rows) l.pin
