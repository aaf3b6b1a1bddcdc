-- GSMA SGP.22, ES10c.SetNickname.
use Rattle.std.specs.Prelude.{ℕ, List, []}
use Rattle.isdr_codec.specs.declared.request.Who.TheVariants.{Iccid}
use Rattle.isdr_commands.specs.Decision.{accepted, at_profile}
use Rattle.isdr_commands.specs.Profiles.{profile_named}
use Rattle.isdr_commands.specs.declared.decision.Decision.{Decision}
use Rattle.record_codec.specs.declared.durable.Heads.{Heads}
use Rattle.record_codec.specs.declared.profile.ProfileHead.{ProfileHead}
use Rattle.record_codec.specs.declared.record.Record.TheVariants.{Name}

-- the profile has the nickname
abbrev pub naming_head : List ℕ → ProfileHead → Decision
naming_head name head = accepted 0xBF29 (Name head.number name) []

-- 1 not found
abbrev pub naming : Heads → List ℕ → List ℕ → Decision
naming heads iccid name =
    at_profile 0xBF29 (profile_named (Iccid iccid) heads.profiles) (naming_head name)
