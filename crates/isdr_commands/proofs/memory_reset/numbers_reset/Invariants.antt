use Rattle.std.proofs.Common.{◌≡◌, ◌≤◌, length, take}
use Rattle.isdr_commands.specs.MemoryReset.{numbers_reset}
use Rattle.isdr_commands.proofs.memory_reset.numbers_reset.Given as goal

abbrev pub invariant-loop-head : goal.invariant-loop-head
invariant-loop-head l =
    (l.numbers ≡ numbers_reset l.operational l.test (take l.head-index l.profiles))
    × (length l.numbers ≤ l.head-index)
