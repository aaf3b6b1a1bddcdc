use Rattle.std.proofs.Common.{take}
use Rattle.std.specs.List.{AllByRecursion, flat_map}
use Rattle.record_codec.specs.Sizes.{IsNote}
use Rattle.record_codec.specs.Spelling.{note}
use Rattle.record_codec.specs.Window.{Puts}
use Rattle.record_codec.proofs.writing.put_notes.Given as goal

abbrev pub invariant-loop-its : goal.invariant-loop-its
invariant-loop-its l = record {
  puts : Puts (flat_map note (take l.its-index l.notes)) l.initial.place l.initial.out l.place l.out;
  sizes : AllByRecursion IsNote (take l.its-index l.notes);
}
