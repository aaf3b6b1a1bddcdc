use Rattle.std.proofs.Common.{◌≡◌, ◌++◌, length, take, drop, vec_capacity}
use Rattle.record_codec.specs.Gone.{contents_without}
use Rattle.record_codec.proofs.apply.drop_contents.Given as goal

abbrev pub invariant-loop-head : goal.invariant-loop-head
invariant-loop-head g l = record {
  so_far : l.contents.items ≡ contents_without l.numbers (take l.head-index l.profiles) (take l.head-index l.initial.contents.items) ++ drop l.head-index l.initial.contents.items;
  place : l.place ≡ length (contents_without l.numbers (take l.head-index l.profiles) (take l.head-index l.initial.contents.items));
  room : vec_capacity l.contents ≡ vec_capacity l.initial.contents;
}
