use Rattle.std.proofs.Common.{◌≡◌, ◌≤◌, ◌++◌, length, drop}
use Rattle.isdr_commands.specs.MemoryReset.{freed_from}
use Rattle.isdr_commands.proofs.memory_reset.freed.Given as goal

abbrev pub invariant-loop-port : goal.invariant-loop-port
invariant-loop-port l =
    (l.moves ++ freed_from l.port l.numbers (drop l.port l.on) ≡ freed_from 0 l.numbers l.on)
    × (length l.moves ≤ l.port)
