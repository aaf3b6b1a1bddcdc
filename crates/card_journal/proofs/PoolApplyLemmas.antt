-- A change that fits, made on the lists of a content.
use Rattle.std.proofs.Common.{◌≡◌, ℕ, ◌+◌, ◌≤◌, List, sym, subst}
use Rattle.std.specs.Prelude.{IsSomeAnd}
use Rattle.file_rows.specs.Change.{Fits}
use Rattle.file_rows.specs.Conditions.{IsSizeOf}
use Rattle.file_rows.specs.Content.{IsValid, file_at, use_of}
use Rattle.file_rows.specs.FileHead.{IsFile}
use Rattle.file_rows.specs.declared.change.Change.{Change}
use Rattle.file_rows.specs.declared.change.Change.TheVariants.{WriteRecord, FileSize}
use Rattle.file_rows.specs.declared.content.Content.{Content}
use Rattle.file_rows.specs.declared.content.TheConstants.{QUOTA}
use Rattle.file_rows.specs.declared.row.FileRow.{FileRow}
use Rattle.file_rows.proofs.ConditionLemmas.{fits_where}
use Rattle.card_journal.specs.Pool.{CanWrite, HasSizeRoom}
use Rattle.record_codec.specs.InPlace.{HasPlaceFor}
use Rattle.card_journal.proofs.PoolChangeLemmas.{some_weaker}
use Rattle.record_codec.proofs.RowLemmas.{record_can}

-- what a change of the file of a path asks of it
abbrev pub CanChangeRow : Content → Change → FileRow → Type 0
CanChangeRow content change row = CanWrite change row.body × HasSizeRoom change (use_of content.rows) 65536 row.head

pub record_can_change : (content : Content) (path : List ℕ) (number : ℕ) (bytes : List ℕ) (change : Change) → change ≡ WriteRecord path number bytes
    → IsValid content → Fits content change → IsSomeAnd (file_at path content.rows) (CanChangeRow content change)
record_can_change content path number bytes change is valid fits =
    subst (λ (change : Change). IsSomeAnd (file_at path content.rows) (CanChangeRow content change)) (sym is)
    (some_weaker (file_at path content.rows) (λ row. HasPlaceFor number bytes row.body) (CanChangeRow content (WriteRecord path number bytes)) (λ row place. (place, tt))
    (record_can content path number bytes valid (subst (λ (change : Change). Fits content change) is fits)))

pub size_can_change : (content : Content) (path : List ℕ) (size : ℕ) (change : Change) → change ≡ FileSize path size
    → IsValid content → Fits content change → IsSomeAnd (file_at path content.rows) (CanChangeRow content change)
size_can_change content path size change is valid fits =
    let conditions : IsSizeOf content.rows path size = (fits_where content (FileSize path size) valid).0 (subst (λ (change : Change). Fits content change) is fits) in
    subst (λ (change : Change). IsSomeAnd (file_at path content.rows) (CanChangeRow content change)) (sym is)
    (some_weaker (file_at path content.rows) (λ row. IsFile (record row.head { size = size }) × (use_of content.rows + size ≤ QUOTA + row.head.size))
    (CanChangeRow content (FileSize path size)) (λ row both. (tt, both.1)) conditions)
