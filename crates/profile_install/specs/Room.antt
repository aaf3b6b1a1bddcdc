-- Whether a file takes content.
use Rattle.std.specs.Prelude.{ℕ, Bool, false, ◌+◌, nat_le, length, Option, Some, None}
use Rattle.file_rows.specs.declared.row.FileRow.{FileRow}

-- whether a file is there, and has so many bytes from a place on
abbrev pub has_room : ℕ → ℕ → Option FileRow → Bool
has_room place count None = false
has_room place count (Some row) = nat_le (place + count) (length row.body)
