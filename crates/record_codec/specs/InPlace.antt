-- What a change of a file needs, so that it is made where the file lies.
use Rattle.std.specs.Prelude.{ℕ, zero, suc, ◌≤◌, ◌+◌, ◌*◌, List, length, ⊤}
use Rattle.file_rows.specs.declared.change.Change.{Change}
use Rattle.file_rows.specs.declared.change.Change.TheVariants.{WriteRange, WriteRecord, PinSet}
use Rattle.file_rows.specs.declared.change.Change.TheVariants.{FileAdd, FileGone, FileState}
use Rattle.file_rows.specs.declared.change.Change.TheVariants.{FileSize}
use Rattle.file_rows.specs.declared.row.FileRow.{FileRow}
use Rattle.record_codec.specs.Room.{KeepsBody}
use Rattle.record_codec.specs.declared.room.Kept.{Kept}

-- the body has a place for the bytes as that record, counted from 1, or as the first one
abbrev pub HasPlaceFor : ℕ → List ℕ → List ℕ → Type 0
HasPlaceFor zero bytes body = length bytes ≤ length body
HasPlaceFor (suc before) bytes body = before * length bytes + length bytes ≤ length body

-- the file may change so
abbrev pub CanChange : Change → FileRow → Kept → Type 0
CanChange (WriteRange path offset bytes) row kept = offset + length bytes ≤ length row.body
CanChange (WriteRecord path number bytes) row kept = HasPlaceFor number bytes row.body
CanChange (PinSet set) row kept = ⊤
CanChange (FileAdd head) row kept = ⊤
CanChange (FileGone path) row kept = ⊤
CanChange (FileState path life) row kept = ⊤
CanChange (FileSize path size) row kept = KeepsBody size row.body kept
