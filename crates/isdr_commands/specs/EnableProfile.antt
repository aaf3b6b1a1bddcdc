-- GSMA SGP.22, ES10c.EnableProfile.
use Rattle.std.specs.Prelude.{ℕ, Bool, ◌+◌, List, [], ◌∷◌, Option, Some, Result, Ok, Err, is_some}
use Rattle.std.specs.Prelude.{if◌then◌else◌}
use Rattle.isdr_codec.specs.declared.request.Who.{Who}
use Rattle.isdr_commands.specs.Decision.{accepted, at_profile, refused_with}
use Rattle.isdr_commands.specs.Profiles.{head_on, is_busy, is_kept, lacks_room, profile_named}
use Rattle.isdr_commands.specs.Profiles.{number_on}
use Rattle.isdr_commands.specs.declared.decision.Decision.{Decision}
use Rattle.notify_list.specs.declared.note.Operation.TheVariants.{Disable, Enable}
use Rattle.port_table.specs.PortOf.{port_of}
use Rattle.port_table.specs.Target.{fault_number, target_port}
use Rattle.port_table.specs.declared.target.TargetFault.{TargetFault}
use Rattle.record_codec.specs.Noted.{count_of, count_where}
use Rattle.record_codec.specs.declared.durable.Heads.{Heads}
use Rattle.record_codec.specs.declared.profile.ProfileHead.{ProfileHead}
use Rattle.record_codec.specs.declared.record.Record.TheVariants.{Bind}

-- how many notifications it makes: of the disabling of the profile that it displaces, and its own
abbrev pub enabling_count : Heads → ProfileHead → ℕ → ℕ
enabling_count heads head port =
    count_where Disable (head_on port heads) + count_of Enable head

-- 7 or 9 no target port, 3 the profile there has PPR1, 5 the REFRESH of the port isn't over, 127 no
-- room for the notifications; else the profile takes the port
abbrev pub enabling_on : Heads → List Bool → Bool → ProfileHead → Result ℕ TargetFault → Decision
enabling_on heads busy refresh head (Err fault) = refused_with 0xBF31 (fault_number fault)
enabling_on heads busy refresh head (Ok port) =
    if is_kept (head_on port heads) then refused_with 0xBF31 3
    else (if is_busy busy port then refused_with 0xBF31 5
    else (if lacks_room heads.notes (enabling_count heads head port) then refused_with 0xBF31 127
    else accepted 0xBF31 (Bind head.number port (number_on port heads)) (record {
      port = port;
      leaves = number_on port heads;
      comes = Some head.number;
      refresh = refresh;
    } ∷ [])))

-- 2 not disabled
abbrev pub enabling_head : Heads → List Bool → ℕ → Bool → Option ℕ → ProfileHead → Decision
enabling_head heads busy came refresh given head =
    if is_some (port_of head.number heads.ports.on) then refused_with 0xBF31 2
    else enabling_on heads busy refresh head (target_port heads.ports came given)

-- 1 not found
abbrev pub enabling_named : Heads → List Bool → ℕ → Who → Bool → Option ℕ → Decision
enabling_named heads busy came who refresh given =
    at_profile 0xBF31 (profile_named who heads.profiles)
    (enabling_head heads busy came refresh given)
