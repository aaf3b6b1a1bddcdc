-- A profile's nickname.
use Rattle.std.specs.Prelude.{ℕ, ◌==◌, if◌then◌else◌, List, map}
use Rattle.record_codec.specs.declared.durable.Durable.{Durable}
use Rattle.record_codec.specs.declared.profile.ProfileHead.{ProfileHead}

abbrev pub named : ℕ → List ℕ → ProfileHead → ProfileHead
named profile nickname head =
    if head.number == profile then record head { nickname = nickname } else head

abbrev pub with_nickname : ℕ → List ℕ → Durable → Durable
with_nickname profile nickname durable = record durable {
  heads = record durable.heads { profiles = map (named profile nickname) durable.heads.profiles };
}
