-- What a change needs, so that a valid content is valid after it too.
use Rattle.std.specs.Prelude.{ℕ, ◌≢◌, ◌≤◌, ◌+◌, List, length, Any, IsSome, IsSomeAnd}
use Rattle.std.specs.List.{AllByRecursion}
use Rattle.file_rows.specs.Apart.{AreFilesApart}
use Rattle.file_rows.specs.Change.{IsRecordFor, KeepsPin}
use Rattle.file_rows.specs.Content.{file_at, use_of}
use Rattle.file_rows.specs.FileHead.{Holds, IsFile}
use Rattle.file_rows.specs.PinRow.{IsPin}
use Rattle.file_rows.specs.declared.change.Change.{Change}
use Rattle.file_rows.specs.declared.change.Change.TheVariants.{WriteRange, WriteRecord, PinSet}
use Rattle.file_rows.specs.declared.change.Change.TheVariants.{FileAdd, FileGone, FileState}
use Rattle.file_rows.specs.declared.change.Change.TheVariants.{FileSize}
use Rattle.file_rows.specs.declared.content.Content.{Content}
use Rattle.file_rows.specs.declared.content.TheConstants.{QUOTA}
use Rattle.file_rows.specs.declared.head.FileHead.{FileHead}
use Rattle.file_rows.specs.declared.head.Kind.TheVariants.{Master}
use Rattle.file_rows.specs.declared.pin.PinRow.{PinRow}
use Rattle.file_rows.specs.declared.row.FileRow.{FileRow}

-- the file is there, and the bytes lie inside its body
abbrev pub IsInsideBody : List FileRow → List ℕ → ℕ → List ℕ → Type 0
IsInsideBody rows path offset bytes = IsSomeAnd (file_at path rows)
    (λ row. offset + length bytes ≤ length row.body)

-- the file is there, and the bytes are a record for it
abbrev pub IsRecordOf : List FileRow → List ℕ → ℕ → List ℕ → Type 0
IsRecordOf rows path number bytes = IsSomeAnd (file_at path rows)
    (λ row. IsRecordFor row number bytes)

-- the PIN is there, and the new one has the form of a PIN
pub record IsPinOf (pins : List PinRow) (set : PinRow) : Type 0 where
  pub there : Any (λ pin. KeepsPin pin set) pins
  pub form : IsPin set

-- the file has a form, a directory, and a path, an SFI and a name of its own, and isn't a second
-- MF; the quota has room
pub record IsNewFile (rows : List FileRow) (head : FileHead) : Type 0 where
  pub form : IsFile head
  pub below : head.kind ≢ Master
  pub directory : Any (λ row. Holds row.head head) rows
  pub apart : AllByRecursion (λ row. AreFilesApart row.head head) rows
  pub quota : use_of rows + (head.size + 32) ≤ QUOTA

-- the file is there, its kind may have this size, and the quota has room for it
abbrev pub IsSizeOf : List FileRow → List ℕ → ℕ → Type 0
IsSizeOf rows path size =
    IsSomeAnd (file_at path rows)
    (λ row. IsFile (record row.head { size = size }) × (use_of rows + size ≤ QUOTA + row.head.size))

-- what each kind of change needs
abbrev pub MeetsConditions : Content → Change → Type 0
MeetsConditions content (WriteRange path offset bytes) = IsInsideBody content.rows path offset bytes
MeetsConditions content (WriteRecord path number bytes) = IsRecordOf content.rows path number bytes
MeetsConditions content (PinSet set) = IsPinOf content.pins set
MeetsConditions content (FileAdd head) = IsNewFile content.rows head
MeetsConditions content (FileGone path) = IsSome (file_at path content.rows)
MeetsConditions content (FileState path life) = IsSome (file_at path content.rows)
MeetsConditions content (FileSize path size) = IsSizeOf content.rows path size
