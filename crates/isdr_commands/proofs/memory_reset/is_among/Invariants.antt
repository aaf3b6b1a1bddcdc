use Rattle.std.proofs.Common.{◌≡◌, drop}
use Rattle.record_codec.specs.Gone.{is_among}
use Rattle.isdr_commands.proofs.memory_reset.is_among.Given as goal

abbrev pub invariant-loop-one : goal.invariant-loop-one
invariant-loop-one l = is_among (drop l.one-index l.numbers) l.number ≡ is_among l.numbers l.number
