use Rattle.std.proofs.Common.{◌≢◌, ◌↔◌, drop}
use Rattle.plain_lists.specs.EachTwo.{EachTwo}
use Rattle.record_codec.proofs.takes.differ.Given as goal

abbrev pub invariant-loop-index : goal.invariant-loop-index
invariant-loop-index l = EachTwo (λ one other. one ≢ other) (drop l.index l.numbers) ↔ EachTwo (λ one other. one ≢ other) l.numbers
