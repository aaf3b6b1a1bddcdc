-- Whether a profile may be installed.
use Rattle.std.specs.Prelude.{◌||◌, nat_le, nat_lt, length, Option, Some, None, if◌then◌else◌}
use Rattle.std.specs.List.{list_any}
use Rattle.std.specs.Str.{bytes_eq}
use Rattle.isdr_commands.specs.Profiles.{lacks_room}
use Rattle.isdr_commands.specs.declared.install.LoadRefusal.{LoadRefusal}
use Rattle.isdr_commands.specs.declared.install.LoadRefusal.TheVariants.{IccidExists, ProfilesFull}
use Rattle.isdr_commands.specs.declared.install.LoadRefusal.TheVariants.{NotificationsFull}
use Rattle.notify_list.specs.declared.note.Operation.TheVariants.{Install}
use Rattle.record_codec.specs.Noted.{count_of}
use Rattle.record_codec.specs.declared.durable.Heads.{Heads}
use Rattle.record_codec.specs.declared.profile.ProfileHead.{ProfileHead}

-- first a profile of the same ICCID, then 16 profiles or no number left, then no room for the
-- notifications
abbrev pub install_refusal : Heads → ProfileHead → Option LoadRefusal
install_refusal heads head =
    if list_any (λ other. bytes_eq other.iccid head.iccid) heads.profiles then Some IccidExists
    else (if nat_le 16 (length heads.profiles) || nat_lt 0xFFFF heads.next_number
    then Some ProfilesFull
    else (if lacks_room heads.notes (count_of Install head) then Some NotificationsFull
    else None))
