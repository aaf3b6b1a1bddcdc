use Rattle.std.proofs.Common.{◌≡◌, ℕ, Bool, true, false, cond, not, List, [], ◌∷◌, ◌++◌, refl, sym}
use Rattle.std.proofs.Common.{◌∙◌, ap, Option, Some, None}
use Rattle.std.proofs.lemmas.Bool.{true≢false}
use Rattle.std.proofs.lemmas.Slice.Eq.{bytes_eq-Decides}
use Rattle.std.proofs.lemmas.List.Folds.{find-append}
use Rattle.std.specs.List.{filter}
use Rattle.std.specs.Prelude.{IsNone, IsTrue}
use Rattle.std.specs.Option.{option_or}
use Rattle.file_rows.specs.Change.{changed, new_file, with_body, with_file, with_life, with_record}
use Rattle.file_rows.specs.Change.{with_size, written, TouchesFile}
use Rattle.file_rows.specs.Content.{file_at}
use Rattle.file_rows.specs.Path.{same_path, stands_below}
use Rattle.file_rows.specs.declared.change.Change.{Change}
use Rattle.file_rows.specs.declared.change.Change.TheVariants.{WriteRange, WriteRecord, PinSet}
use Rattle.file_rows.specs.declared.change.Change.TheVariants.{FileAdd, FileGone, FileState}
use Rattle.file_rows.specs.declared.change.Change.TheVariants.{FileSize}
use Rattle.file_rows.specs.declared.content.Content.{Content}
use Rattle.file_rows.specs.declared.head.FileHead.{FileHead}
use Rattle.file_rows.specs.declared.row.FileRow.{FileRow}

-- a test that is not true is false
is_false : (b : Bool) → (b ≡ true → ⊥) → b ≡ false
is_false true h = absurd (h refl)
is_false false h = refl

pub same_path-refl : (path : List ℕ) → same_path path path ≡ true
same_path-refl path = (bytes_eq-Decides path path).1 refl

pub same_path-other : (one other : List ℕ) → (one ≡ other → ⊥) → same_path one other ≡ false
same_path-other one other h = is_false _ (λ e. h ((bytes_eq-Decides one other).0 e))

none_is : {A : Type 0} (o : Option A) → IsNone o → o ≡ None
none_is None h = refl
none_is (Some x) h = absurd (true≢false h)

or_none : {A : Type 0} (o : Option A) → option_or o None ≡ o
or_none None = refl
or_none (Some x) = refl

-- a file whose path is that of the changed one isn't the other file that is looked for
pub file_at-with_file : (path other : List ℕ) (change : FileRow → FileRow) → ((row : FileRow) → (change row).head.path ≡ row.head.path) → (path ≡ other → ⊥) → (rows : List FileRow) → file_at other (with_file path change rows) ≡ file_at other rows
file_at-with_file path other change keeps differ [] = refl
file_at-with_file path other change keeps differ (row ∷ rows) =
    let rest = file_at-with_file path other change keeps differ rows in
    let step : (b : Bool) → same_path row.head.path path ≡ b → cond (same_path (cond b (change row) row).head.path other) (Some (cond b (change row) row)) (file_at other (with_file path change rows)) ≡ cond (same_path row.head.path other) (Some row) (file_at other rows)
    = λ b. elim b as (λ b. same_path row.head.path path ≡ b → cond (same_path (cond b (change row) row).head.path other) (Some (cond b (change row) row)) (file_at other (with_file path change rows)) ≡ cond (same_path row.head.path other) (Some row) (file_at other rows)) [
      | true ↦ λ e.
          let at : row.head.path ≡ path = (bytes_eq-Decides row.head.path path).0 e in
          let apart : same_path row.head.path other ≡ false = same_path-other row.head.path other (λ same. differ (sym at ∙ same)) in
          rw (keeps row, apart, rest) refl
      | false ↦ λ e. rw rest refl
    ]
    in step (same_path row.head.path path) refl

-- a file that stays is found as before
file_at-filter : (top path : List ℕ) → stands_below top path ≡ false → (rows : List FileRow) → file_at path (filter (λ row. not (stands_below top row.head.path)) rows) ≡ file_at path rows
file_at-filter top path outside [] = refl
file_at-filter top path outside (row ∷ rows) =
    let rest = file_at-filter top path outside rows in
    let kept : List FileRow = filter (λ row. not (stands_below top row.head.path)) rows in
    let step : (b : Bool) → stands_below top row.head.path ≡ b → file_at path (cond (not b) (row ∷ kept) kept) ≡ cond (same_path row.head.path path) (Some row) (file_at path rows)
    = λ b. elim b as (λ b. stands_below top row.head.path ≡ b → file_at path (cond (not b) (row ∷ kept) kept) ≡ cond (same_path row.head.path path) (Some row) (file_at path rows)) [
      | true ↦ λ e. rw (same_path-other row.head.path path (λ same. true≢false (sym e ∙ (ap (stands_below top) same ∙ outside)))) rest
      | false ↦ λ e. rw rest refl
    ]
    in step (stands_below top row.head.path) refl

-- a file that goes isn't found
file_at-gone : (top path : List ℕ) → stands_below top path ≡ true → (rows : List FileRow) → file_at path (filter (λ row. not (stands_below top row.head.path)) rows) ≡ None
file_at-gone top path inside [] = refl
file_at-gone top path inside (row ∷ rows) =
    let rest = file_at-gone top path inside rows in
    let kept : List FileRow = filter (λ row. not (stands_below top row.head.path)) rows in
    let step : (b : Bool) → stands_below top row.head.path ≡ b → file_at path (cond (not b) (row ∷ kept) kept) ≡ None
    = λ b. elim b as (λ b. stands_below top row.head.path ≡ b → file_at path (cond (not b) (row ∷ kept) kept) ≡ None) [
      | true ↦ λ e. rest
      | false ↦ λ e. rw (same_path-other row.head.path path (λ same. true≢false (sym inside ∙ (ap (stands_below top) (sym same) ∙ e)))) rest
    ]
    in step (stands_below top row.head.path) refl

-- a file that isn't there is found where it is added
file_at-added : (head : FileHead) (rows : List FileRow) → file_at head.path rows ≡ None → file_at head.path (rows ++ new_file head ∷ []) ≡ Some (new_file head)
file_at-added head rows absent = rw (find-append, absent, same_path-refl head.path) refl

-- another file isn't found there
file_at-beside : (head : FileHead) (path : List ℕ) (rows : List FileRow) → (head.path ≡ path → ⊥) → file_at path (rows ++ new_file head ∷ []) ≡ file_at path rows
file_at-beside head path rows apart = rw (find-append, same_path-other head.path path apart) (or_none (file_at path rows))

pub others : (content : Content) (change : Change) (path : List ℕ) → (TouchesFile change path → ⊥) → file_at path (changed content change).rows ≡ file_at path content.rows
others content (WriteRange path offset bytes) file apart = file_at-with_file path file (with_body (written offset bytes)) (λ row. refl) apart content.rows
others content (WriteRecord path number bytes) file apart = file_at-with_file path file (with_body (with_record number bytes)) (λ row. refl) apart content.rows
others content (PinSet set) file apart = refl
others content (FileAdd head) file apart = file_at-beside head file content.rows apart
others content (FileGone path) file apart = file_at-filter path file (is_false _ apart) content.rows
others content (FileState path life) file apart = file_at-with_file path file (with_life life) (λ row. refl) apart content.rows
others content (FileSize path size) file apart = file_at-with_file path file (with_size size) (λ row. refl) apart content.rows

pub added : (content : Content) (head : FileHead) → IsNone (file_at head.path content.rows) → file_at head.path (changed content (FileAdd head)).rows ≡ Some (new_file head)
added content head absent = file_at-added head content.rows (none_is _ absent)

pub gone : (content : Content) (top path : List ℕ) → IsTrue (stands_below top path) → IsNone (file_at path (changed content (FileGone top)).rows)
gone content top path inside = rw (file_at-gone top path inside content.rows) refl
