-- A profile's files as their heads and one list of bytes, in which the bodies stand one behind
-- another.
use Rattle.std.specs.Prelude.{ℕ, List, [], ◌∷◌, take, drop, sum_by}
use Rattle.file_rows.specs.declared.head.FileHead.{FileHead}
use Rattle.file_rows.specs.declared.pin.PinRow.{PinRow}
use Rattle.file_rows.specs.declared.content.Content.{Content}
use Rattle.file_rows.specs.declared.row.FileRow.{FileRow}
use Rattle.record_codec.specs.declared.pooled.PooledFiles.{PooledFiles}

-- the files with these heads, whose bodies are cut off the bytes in turn
abbrev pub pooled_rows : List FileHead → List ℕ → List FileRow
pooled_rows [] bytes = []
pooled_rows (head ∷ heads) bytes =
    record { head = head; body = take head.size bytes } ∷ pooled_rows heads (drop head.size bytes)

-- how many bytes the bodies take
abbrev pub pooled_size : List FileHead → ℕ
pooled_size heads = sum_by (λ head. head.size) heads

-- the files that they stand for
abbrev pub files_pooled : PooledFiles → List FileRow
files_pooled files = pooled_rows files.heads.now files.bytes.now

-- the content with these files and PINs
abbrev pub pooled_content : PooledFiles → List PinRow → Content
pooled_content files pins = record { rows = files_pooled files; pins = pins }
