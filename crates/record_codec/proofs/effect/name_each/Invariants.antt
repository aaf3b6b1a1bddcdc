use Rattle.std.proofs.Common.{◌≡◌}
use Rattle.plain_lists.proofs.MappedLemmas.{mapped_to}
use Rattle.record_codec.specs.Name.{named}
use Rattle.record_codec.proofs.effect.name_each.Given as goal

abbrev pub invariant-loop-place : goal.invariant-loop-place
invariant-loop-place l = l.profiles ≡ mapped_to (named l.profile l.nickname) l.place l.initial.profiles
