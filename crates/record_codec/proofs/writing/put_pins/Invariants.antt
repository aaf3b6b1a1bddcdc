use Rattle.std.proofs.Common.{take}
use Rattle.std.specs.List.{AllByRecursion, flat_map}
use Rattle.record_codec.specs.Sizes.{HasPinSizes}
use Rattle.record_codec.specs.Spelling.{pin}
use Rattle.record_codec.specs.Window.{Puts}
use Rattle.record_codec.proofs.writing.put_pins.Given as goal

abbrev pub invariant-loop-row : goal.invariant-loop-row
invariant-loop-row l = record {
  puts : Puts (flat_map pin (take l.row-index l.pins)) l.initial.place l.initial.out l.place l.out;
  sizes : AllByRecursion HasPinSizes (take l.row-index l.pins);
}
