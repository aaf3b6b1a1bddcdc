-- What requests ask of the profiles, their ports and the notifications.
use Rattle.std.specs.Prelude.{ℕ, Bool, false, not, ◌+◌, ◌==◌, ◌&&◌, ◌||◌, nat_le, List, length}
use Rattle.std.specs.Prelude.{find, slice_get, slice_index_or, Option, Some, None, option_and_then}
use Rattle.std.specs.Prelude.{bit_and}
use Rattle.std.specs.Str.{bytes_eq}
use Rattle.notify_list.specs.Notes.{NoteList}
use Rattle.isdr_codec.specs.Profile.{aid_of}
use Rattle.isdr_codec.specs.declared.request.Who.{Who}
use Rattle.isdr_codec.specs.declared.request.Who.TheVariants.{Aid, Iccid}
use Rattle.record_codec.specs.Heads.{head_of}
use Rattle.record_codec.specs.declared.durable.Heads.{Heads}
use Rattle.record_codec.specs.declared.profile.ProfileHead.{ProfileHead}

abbrev pub is_identified : Who → ProfileHead → Bool
is_identified (Aid aid) head = bytes_eq aid (aid_of head.number)
is_identified (Iccid iccid) head = bytes_eq iccid head.iccid

-- the profile that a request names
abbrev pub profile_named : Who → List ProfileHead → Option ProfileHead
profile_named who profiles = find (is_identified who) profiles

-- the number of the profile on a port
abbrev pub number_on : ℕ → Heads → Option ℕ
number_on port heads = option_and_then (λ place. place) (slice_get heads.ports.on port)

-- the profile on a port
abbrev pub head_on : ℕ → Heads → Option ProfileHead
head_on port heads =
    option_and_then (λ number. head_of number heads.profiles) (number_on port heads)

-- PPR1: not to be disabled
abbrev pub keeps_enabled : ProfileHead → Bool
keeps_enabled head = not (bit_and head.policy 1 == 0)

-- PPR2: not to be deleted
abbrev pub keeps_held : ProfileHead → Bool
keeps_held head = not (bit_and head.policy 2 == 0)

-- whether there is a profile that isn't to be disabled
abbrev pub is_kept : Option ProfileHead → Bool
is_kept None = false
is_kept (Some head) = keeps_enabled head

-- whether the REFRESH of a port isn't over
abbrev pub is_busy : List Bool → ℕ → Bool
is_busy busy port = slice_index_or busy port false

-- whether so many notifications more find no room: more than 256 would be pending, or a number
-- would pass 4,294,967,295
abbrev pub lacks_room : NoteList → ℕ → Bool
lacks_room notes more =
    not (nat_le (length notes.list + more) 256
    && ((more == 0) || nat_le (notes.next + more) (4294967295 + 1)))
