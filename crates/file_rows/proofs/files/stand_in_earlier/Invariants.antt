use Rattle.std.proofs.Common.{◌↔◌, take, drop}
use Rattle.file_rows.specs.Content.{StandInEarlier, heads_of}
use Rattle.file_rows.proofs.files.stand_in_earlier.Given as goal

abbrev pub invariant-loop-index : goal.invariant-loop-index
invariant-loop-index l =
    StandInEarlier (heads_of (take l.index l.rows)) (heads_of (drop l.index l.rows)) ↔ StandInEarlier (heads_of (take 1 l.rows)) (heads_of (drop 1 l.rows))
