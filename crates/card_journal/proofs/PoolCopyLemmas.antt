-- A content copied file by file.
use Rattle.std.proofs.Common.{◌≡◌, ℕ, zero, suc, ◌+◌, ◌≤◌, List, [], ◌∷◌, ◌++◌, length, take, drop}
use Rattle.std.proofs.Common.{Some, sym, ◌∙◌, ap, arith, add-one}
use Rattle.std.specs.Prelude.{slice_get}
use Rattle.std.proofs.lemmas.List.Sums.{sum_by-cons}
use Rattle.file_rows.specs.Content.{use_of}
use Rattle.file_rows.specs.declared.head.FileHead.{FileHead}
use Rattle.file_rows.specs.declared.row.FileRow.{FileRow}
use Rattle.record_codec.specs.Pooled.{pooled_rows, pooled_size}
use Rattle.record_codec.proofs.PooledLemmas.{row-at, size-one, take-one}

use-cons : (row : FileRow) (rows : List FileRow) → use_of (row ∷ rows) ≡ length row.body + 32 + use_of rows
use-cons row rows = sum_by-cons (λ (row : FileRow). length row.body + 32) row rows

-- the quota has room for the next file
pub next-room : (rows : List FileRow) (k : ℕ) (row : FileRow) → slice_get rows k ≡ Some row → use_of (take k rows) + (length row.body + 32) ≤ use_of rows
next-room [] k row there = absurd (cc)
next-room (it ∷ rows) zero row there =
    let same : it ≡ row = cc in
    omega (arith, use-cons it rows, ap (λ (r : FileRow). length r.body) same)
next-room (it ∷ rows) (suc k) row there = omega (arith, use-cons it rows, use-cons it (take k rows), next-room rows k row there)

-- the next file, cut off the bytes
pub next-row : (heads : List FileHead) (bytes : List ℕ) (k start : ℕ) (head : FileHead) (row : FileRow) (so_far : List FileRow) → slice_get heads k ≡ Some head
    → start ≡ pooled_size (take k heads) → row ≡ record { head = head; body = take head.size (drop start bytes) } → so_far ≡ take k (pooled_rows heads bytes)
    → (so_far ++ row ∷ [] ≡ take (k + 1) (pooled_rows heads bytes)) × (start + head.size ≡ pooled_size (take (k + 1) heads))
next-row heads bytes k start head row so_far there begin is done =
    let there' = row-at heads k bytes head there
    ∙ ap (λ (n : ℕ). let row : FileRow = record { head = head; body = take head.size (drop n bytes) } in Some row) (sym begin) in (
      rw (done, is, add-one) (sym (take-one (pooled_rows heads bytes) k _ there')),
      rw (begin, add-one) (sym (size-one heads k head there)),
    )
