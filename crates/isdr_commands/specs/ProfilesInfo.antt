-- GSMA SGP.22, ES10c.GetProfilesInfo: the profiles that are searched for, by number.
use Rattle.std.specs.Prelude.{ℕ, Bool, true, ◌==◌, List, map, filter}
use Rattle.isdr_codec.specs.declared.request.Search.{Search}
use Rattle.isdr_codec.specs.declared.request.Search.TheVariants.{All, Class, One}
use Rattle.isdr_commands.specs.Ascending.{ascending}
use Rattle.isdr_commands.specs.Decision.{told}
use Rattle.isdr_commands.specs.Profiles.{is_identified}
use Rattle.isdr_commands.specs.declared.decision.Decision.{Decision}
use Rattle.isdr_codec.specs.declared.reply.Reply.TheVariants.{Infos}
use Rattle.record_codec.specs.declared.durable.Heads.{Heads}
use Rattle.record_codec.specs.declared.profile.ProfileHead.{ProfileHead}

abbrev pub is_searched : Search → ProfileHead → Bool
is_searched All head = true
is_searched (One who) head = is_identified who head
is_searched (Class class) head = head.class == class

abbrev pub numbers_searched : Search → List ProfileHead → List ℕ
numbers_searched search profiles = map (λ head. head.number) (filter (is_searched search) profiles)

abbrev pub profiles_info : Heads → Search → ℕ → Decision
profiles_info heads search fields =
    told (Infos (ascending (numbers_searched search heads.profiles)) fields)
