-- GSMA SGP.22, ES10c.DisableProfile.
use Rattle.std.specs.Prelude.{ℕ, Bool, List, [], ◌∷◌, Option, Some, None, if◌then◌else◌}
use Rattle.isdr_codec.specs.declared.request.Who.{Who}
use Rattle.isdr_commands.specs.Decision.{accepted, at_profile, refused_with}
use Rattle.isdr_commands.specs.Profiles.{is_busy, keeps_enabled, lacks_room, profile_named}
use Rattle.isdr_commands.specs.declared.decision.Decision.{Decision}
use Rattle.notify_list.specs.declared.note.Operation.TheVariants.{Disable}
use Rattle.port_table.specs.PortOf.{port_of}
use Rattle.record_codec.specs.Noted.{count_of}
use Rattle.record_codec.specs.declared.durable.Heads.{Heads}
use Rattle.record_codec.specs.declared.profile.ProfileHead.{ProfileHead}
use Rattle.record_codec.specs.declared.record.Record.TheVariants.{Unbind}

-- 2 not enabled, 3 it has PPR1, 5 the REFRESH of its port isn't over, 127 no room for the
-- notifications; else it leaves its port
abbrev pub disabling_on : Heads → List Bool → Bool → ProfileHead → Option ℕ → Decision
disabling_on heads busy refresh head None = refused_with 0xBF32 2
disabling_on heads busy refresh head (Some port) =
    if keeps_enabled head then refused_with 0xBF32 3
    else (if is_busy busy port then refused_with 0xBF32 5
    else (if lacks_room heads.notes (count_of Disable head) then refused_with 0xBF32 127
    else accepted 0xBF32 (Unbind head.number) (record {
      port = port;
      leaves = Some head.number;
      comes = None;
      refresh = refresh;
    } ∷ [])))

abbrev pub disabling_head : Heads → List Bool → Bool → ProfileHead → Decision
disabling_head heads busy refresh head =
    disabling_on heads busy refresh head (port_of head.number heads.ports.on)

-- 1 not found
abbrev pub disabling_named : Heads → List Bool → Who → Bool → Decision
disabling_named heads busy who refresh =
    at_profile 0xBF32 (profile_named who heads.profiles) (disabling_head heads busy refresh)
