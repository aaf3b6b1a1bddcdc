use Rattle.std.proofs.Common.{◌≡◌, ◌≤◌, length, take}
use Rattle.isdr_commands.specs.ProfilesInfo.{numbers_searched}
use Rattle.isdr_commands.proofs.profiles_info.numbers_searched.Given as goal

abbrev pub invariant-loop-head : goal.invariant-loop-head
invariant-loop-head l = (l.numbers ≡ numbers_searched l.search (take l.head-index l.profiles))
    × (length l.numbers ≤ l.head-index)
