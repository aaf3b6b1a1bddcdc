use Rattle.std.proofs.Common.{◌+◌, ◌≤◌, length}
use Rattle.std.specs.Option.{ForSome}
use Rattle.profile_install.proofs.tests.packages.built.Given as goal

-- what came and what is left are no more than the package
abbrev pub invariant-loop-length : goal.invariant-loop-length
invariant-loop-length l =
    ForSome l.builder.bytes (λ bytes. length bytes + length l.rest ≤ length l.bytes)
