-- How much of the quota the files take after a change.
use Rattle.std.proofs.Common.{◌≡◌, ℕ, ◌+◌, ◌≤◌, List, length, refl, ap, Some, arith}
use Rattle.file_rows.specs.Change.{KeepsSizes, NamesWhatIsThere, IsRecordFor, changed, with_body}
use Rattle.file_rows.specs.Change.{with_file, with_life, with_record, with_size, written}
use Rattle.file_rows.specs.Content.{AreFiles, file_at, use_of}
use Rattle.file_rows.specs.FileHead.{IsFile}
use Rattle.file_rows.specs.Path.{same_path}
use Rattle.file_rows.specs.declared.change.Change.{Change}
use Rattle.file_rows.specs.declared.change.Change.TheVariants.{WriteRange, WriteRecord, PinSet}
use Rattle.file_rows.specs.declared.change.Change.TheVariants.{FileAdd, FileGone, FileState}
use Rattle.file_rows.specs.declared.change.Change.TheVariants.{FileSize}
use Rattle.file_rows.specs.declared.content.Content.{Content}
use Rattle.file_rows.specs.declared.row.FileRow.{FileRow}
use Rattle.file_rows.proofs.ConditionLemmas.{length-resized, length-written, record_long}
use Rattle.file_rows.proofs.ConditionLemmas.{some_found}
use Rattle.file_rows.proofs.EachLemmas.{each_of_map}
use Rattle.file_rows.proofs.EditLemmas.{some_is, stands, use_replaced}
use Rattle.file_rows.proofs.FindLemmas.{found_has}

module _ (rows : List FileRow) (files : AreFiles rows) (path : List ℕ) (row : FileRow) (found : file_at path rows ≡ Some row) where
  -- a file that is found has the form of one
  file_form : IsFile row.head
  file_form = found_has (λ r. IsFile r.head) (λ r. same_path r.head.path path) rows row ((each_of_map (λ (r : FileRow). r.head) IsFile rows).1 files.each) found

  -- and a body of its size
  body_is : length row.body ≡ row.head.size
  body_is = found_has (λ r. length r.body ≡ r.head.size) (λ r. same_path r.head.path path) rows row files.bodies found

  -- the files with one changed take as much less or more as its body is shorter or longer
  use_edited : (change : FileRow → FileRow)
      → ((change row).head.path ≡ row.head.path) × ((change row).head.kind ≡ row.head.kind) × ((change row).head.sfi ≡ row.head.sfi) × ((change row).head.name ≡ row.head.name)
      → use_of (with_file path change rows) + length row.body ≡ use_of rows + length (change row).body
  use_edited change same =
      let there = stands path change rows row files.paths found in
      omega (arith, use_replaced there.before there.after row (change row) same.0 same.1 same.2 same.3, ap use_of there.was, ap use_of there.is)

  use_body : (body : List ℕ → List ℕ) → length (body row.body) ≡ length row.body → use_of (with_file path (with_body body) rows) ≡ use_of rows
  use_body body long = omega (arith, use_edited (with_body body) (refl, refl, refl, refl), long)

  pub use_sized : (size : ℕ) → use_of (with_file path (with_size size) rows) + row.head.size ≡ use_of rows + size
  use_sized size = omega (arith, use_edited (with_size size) (refl, refl, refl, refl), body_is, length-resized size row.body)

-- a change that keeps the sizes takes nothing more
pub use_kept : (content : Content) (change : Change) → AreFiles content.rows → NamesWhatIsThere content change → KeepsSizes change
    → use_of (changed content change).rows ≡ use_of content.rows
use_kept content (WriteRange path offset bytes) files names keeps =
    let found = some_is (file_at path content.rows) (λ row. offset + length bytes ≤ length row.body) names in
    use_body content.rows files path found.0 found.1 (written offset bytes) (length-written offset bytes found.0.body found.2)
use_kept content (WriteRecord path number bytes) files names keeps =
    let found = some_is (file_at path content.rows) (λ row. IsRecordFor row number bytes) names in
    use_body content.rows files path found.0 found.1 (with_record number bytes)
    (record_long found.0 number bytes (file_form content.rows files path found.0 found.1) (body_is content.rows files path found.0 found.1) found.2)
use_kept content (PinSet set) files names keeps = refl
use_kept content (FileAdd head) files names keeps = absurd keeps
use_kept content (FileGone path) files names keeps = absurd keeps
use_kept content (FileState path life) files names keeps =
    let found = some_found (file_at path content.rows) names in
    omega (arith, use_edited content.rows files path found.0 found.1 (with_life life) (refl, refl, refl, refl))
use_kept content (FileSize path size) files names keeps = absurd keeps
