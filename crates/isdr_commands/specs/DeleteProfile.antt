-- GSMA SGP.22, ES10c.DeleteProfile.
use Rattle.std.specs.Prelude.{[], ◌∷◌, is_some, if◌then◌else◌}
use Rattle.isdr_codec.specs.declared.request.Who.{Who}
use Rattle.isdr_commands.specs.Decision.{accepted, at_profile, refused_with}
use Rattle.isdr_commands.specs.Profiles.{keeps_held, lacks_room, profile_named}
use Rattle.isdr_commands.specs.declared.decision.Decision.{Decision}
use Rattle.notify_list.specs.declared.note.Operation.TheVariants.{Delete}
use Rattle.port_table.specs.PortOf.{port_of}
use Rattle.record_codec.specs.Noted.{count_of}
use Rattle.record_codec.specs.declared.durable.Heads.{Heads}
use Rattle.record_codec.specs.declared.profile.ProfileHead.{ProfileHead}
use Rattle.record_codec.specs.declared.record.Record.TheVariants.{Gone}

-- 2 not disabled, 3 it has PPR2, 127 no room for the notifications; else it goes
abbrev pub deleting_head : Heads → ProfileHead → Decision
deleting_head heads head =
    if is_some (port_of head.number heads.ports.on) then refused_with 0xBF33 2
    else (if keeps_held head then refused_with 0xBF33 3
    else (if lacks_room heads.notes (count_of Delete head) then refused_with 0xBF33 127
    else accepted 0xBF33 (Gone (head.number ∷ [])) []))

-- 1 not found
abbrev pub deleting_named : Heads → Who → Decision
deleting_named heads who = at_profile 0xBF33 (profile_named who heads.profiles)
    (deleting_head heads)
