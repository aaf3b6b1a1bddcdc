use Rattle.std.proofs.Common.{take}
use Rattle.std.specs.List.{AllByRecursion, flat_map}
use Rattle.record_codec.specs.Sizes.{IsTarget}
use Rattle.record_codec.specs.Spelling.{target}
use Rattle.record_codec.specs.Window.{Puts}
use Rattle.record_codec.proofs.put.put_targets.Given as goal

abbrev pub invariant-loop-its : goal.invariant-loop-its
invariant-loop-its l = record {
  puts : Puts (flat_map target (take l.its-index l.targets)) l.initial.place l.initial.out l.place l.out;
  sizes : AllByRecursion IsTarget (take l.its-index l.targets);
}
