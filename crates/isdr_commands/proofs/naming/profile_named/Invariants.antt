use Rattle.std.proofs.Common.{◌≡◌, drop}
use Rattle.isdr_commands.specs.Profiles.{profile_named}
use Rattle.isdr_commands.proofs.naming.profile_named.Given as goal

abbrev pub invariant-loop-head : goal.invariant-loop-head
invariant-loop-head l = profile_named l.who (drop l.head-index l.profiles) ≡ profile_named l.who
    l.profiles
