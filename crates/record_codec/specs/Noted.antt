-- The notifications of what is done to a profile (GSMA SGP.22,
-- NotificationConfigurationInformation).
use Rattle.std.specs.Prelude.{ℕ, Bool, not, ◌==◌, ◌+◌, List, [], ◌∷◌, length, Option, Some, None}
use Rattle.std.specs.Prelude.{filter, bit_and}
use Rattle.notify_list.specs.Notes.{NoteList, with_note}
use Rattle.notify_list.specs.declared.note.Operation.{Operation}
use Rattle.notify_list.specs.declared.note.Operation.TheVariants.{Install, Enable, Disable, Delete}
use Rattle.record_codec.specs.Heads.{head_of}
use Rattle.record_codec.specs.declared.profile.NoteTarget.{NoteTarget}
use Rattle.record_codec.specs.declared.profile.ProfileHead.{ProfileHead}

-- the bit of an operation in a target's byte
abbrev pub operation_bit : Operation → ℕ
operation_bit Install = 1
operation_bit Enable = 2
operation_bit Disable = 4
operation_bit Delete = 8

-- whether the target names the operation
abbrev pub names : Operation → NoteTarget → Bool
names operation target = not (bit_and target.operations (operation_bit operation) == 0)

-- the notifications with one more for each of these targets, in their order
abbrev pub with_each : Operation → List ℕ → List NoteTarget → NoteList → NoteList
with_each operation iccid [] notes = notes
with_each operation iccid (target ∷ targets) notes =
    with_each operation iccid targets (with_note operation iccid target.address notes)

-- the notifications with those of an operation on a profile: one for each target that names it
abbrev pub noted : Operation → ProfileHead → NoteList → NoteList
noted operation head notes = with_each operation head.iccid (filter (names operation) head.targets)
    notes

abbrev pub noted_where : Operation → Option ProfileHead → NoteList → NoteList
noted_where operation None notes = notes
noted_where operation (Some head) notes = noted operation head notes

-- the notifications with those of an operation on each of these profiles, in their order
abbrev pub noted_each : Operation → List ℕ → List ProfileHead → NoteList → NoteList
noted_each operation [] profiles notes = notes
noted_each operation (number ∷ numbers) profiles notes =
    noted_each operation numbers profiles (noted_where operation (head_of number profiles) notes)

-- how many notifications those of an operation on a profile are
abbrev pub count_of : Operation → ProfileHead → ℕ
count_of operation head = length (filter (names operation) head.targets)

abbrev pub count_where : Operation → Option ProfileHead → ℕ
count_where operation None = 0
count_where operation (Some head) = count_of operation head

abbrev pub count_of_each : Operation → List ℕ → List ProfileHead → ℕ
count_of_each operation [] profiles = 0
count_of_each operation (number ∷ numbers) profiles =
    count_where operation (head_of number profiles) + count_of_each operation numbers profiles
