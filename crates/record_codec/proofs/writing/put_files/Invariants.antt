use Rattle.std.proofs.Common.{take}
use Rattle.std.specs.List.{AllByRecursion, flat_map}
use Rattle.record_codec.specs.Sizes.{HasFileSizes}
use Rattle.record_codec.specs.Spelling.{file}
use Rattle.record_codec.specs.Window.{Puts}
use Rattle.record_codec.proofs.writing.put_files.Given as goal

abbrev pub invariant-loop-row : goal.invariant-loop-row
invariant-loop-row l = record {
  puts : Puts (flat_map file (take l.row-index l.rows)) l.initial.place l.initial.out l.place l.out;
  sizes : AllByRecursion HasFileSizes (take l.row-index l.rows);
}
