-- How much of the quota the files take after a change.
use Rattle.std.proofs.Common.{◌≡◌, ◌≢◌, ℕ, ◌+◌, ◌≤◌, List, [], refl, sym, ◌∙◌, ap, subst, Some}
use Rattle.std.proofs.Common.{⊎_elim}
use Rattle.std.proofs.lemmas.Option.{none-some}
use Rattle.file_rows.specs.Change.{KeepsSizes, with_file, with_size}
use Rattle.file_rows.specs.Content.{file_at, use_of}
use Rattle.file_rows.specs.declared.change.Change.{Change}
use Rattle.file_rows.specs.declared.change.Change.TheVariants.{WriteRange, WriteRecord, PinSet}
use Rattle.file_rows.specs.declared.change.Change.TheVariants.{FileAdd, FileGone, FileState}
use Rattle.file_rows.specs.declared.change.Change.TheVariants.{FileSize}
use Rattle.file_rows.specs.declared.content.TheConstants.{QUOTA}
use Rattle.file_rows.specs.declared.head.FileHead.{FileHead}
use Rattle.file_rows.specs.declared.row.FileRow.{FileRow}
use Rattle.file_rows.proofs.UseLemmas.{use_kept, use_sized}
use Rattle.uicc_tree.specs.Change.{AreRows, FitsFiles, rows_after}
use Rattle.uicc_tree.specs.Files.{Files, rows_of}
use Rattle.uicc_tree.proofs.ApplyLemmas.{rows_alike}

-- where there are no files, a change that keeps their sizes brings none
none_after : (change : Change) → KeepsSizes change → rows_after [] change ≡ []
none_after (WriteRange path offset bytes) keeps = refl
none_after (WriteRecord path number bytes) keeps = refl
none_after (PinSet set) keeps = refl
none_after (FileAdd head) keeps = absurd keeps
none_after (FileGone path) keeps = absurd keeps
none_after (FileState path life) keeps = refl
none_after (FileSize path size) keeps = absurd keeps

pub used_kept : (tree : Files) (change : Change) → AreRows (rows_of tree) → FitsFiles tree change → KeepsSizes change
    → use_of (rows_after (rows_of tree) change) ≡ use_of (rows_of tree)
used_kept tree change either fits keeps = ⊎_elim
    (λ files. sym (ap use_of (rows_alike (rows_of tree) fits.0 change)) ∙ use_kept (record { rows = rows_of tree; pins = fits.0 }) change files fits.1.place keeps)
    (λ none. ap (λ (rows : List FileRow). use_of (rows_after rows change)) none ∙ ap use_of (none_after change keeps) ∙ sym (ap use_of none))
    either

pub used_sized : (rows : List FileRow) → AreRows rows → (path : List ℕ) (row : FileRow) → file_at path rows ≡ Some row → (size : ℕ)
    → use_of (with_file path (with_size size) rows) + row.head.size ≡ use_of rows + size
used_sized rows either path row found size = ⊎_elim
    (λ files. use_sized rows files path row found size)
    (λ none. absurd (none-some row (sym (ap (file_at path) none) ∙ found)))
    either

-- a change of another kind than these keeps the sizes
pub keeps_sizes : (change : Change) → ((head : FileHead) → change ≢ FileAdd head) → ((path : List ℕ) → change ≢ FileGone path)
    → ((path : List ℕ) (size : ℕ) → change ≢ FileSize path size) → KeepsSizes change
keeps_sizes (WriteRange path offset bytes) add gone sized = tt
keeps_sizes (WriteRecord path number bytes) add gone sized = tt
keeps_sizes (PinSet set) add gone sized = tt
keeps_sizes (FileAdd head) add gone sized = absurd (add head refl)
keeps_sizes (FileGone path) add gone sized = absurd (gone path refl)
keeps_sizes (FileState path life) add gone sized = tt
keeps_sizes (FileSize path size) add gone sized = absurd (sized path size refl)

-- a change that fits keeps to the quota
pub quota_after : (tree : Files) (change : Change) → FitsFiles tree change → use_of (rows_after (rows_of tree) change) ≤ QUOTA
quota_after tree change fits = subst (λ (rows : List FileRow). use_of rows ≤ QUOTA) (rows_alike (rows_of tree) fits.0 change) fits.1.after.quota
