-- A notification that may stand behind another one.
use Rattle.std.specs.Prelude.{ℕ, ◌<◌, ◌≤◌}
use Rattle.notify_list.specs.declared.note.Note.{Note}
use Rattle.record_codec.specs.IsDurable.{IsAddress}

-- its number comes after the previous one and before the next that will be given
pub record IsBehind (previous next : ℕ) (note : Note) : Type 0 where
  pub after : previous < note.number
  pub before : note.number < next
  pub few : note.number ≤ 4294967295
  pub address : IsAddress note.address
