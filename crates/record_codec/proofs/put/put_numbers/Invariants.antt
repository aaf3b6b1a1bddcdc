use Rattle.std.proofs.Common.{take}
use Rattle.std.specs.List.{AllByRecursion, flat_map}
use Rattle.record_codec.specs.Fields.{number2}
use Rattle.record_codec.specs.Sizes.{IsNumber2}
use Rattle.record_codec.specs.Window.{Puts}
use Rattle.record_codec.proofs.put.put_numbers.Given as goal

abbrev pub invariant-loop-number : goal.invariant-loop-number
invariant-loop-number l = record {
  puts : Puts (flat_map number2 (take l.number-index l.numbers)) l.initial.place l.initial.out l.place l.out;
  sizes : AllByRecursion IsNumber2 (take l.number-index l.numbers);
}
