-- The file of a path among others.
use Rattle.std.proofs.Common.{◌≡◌, ◌≢◌, ℕ, zero, suc, ◌+◌, ◌*◌, ◌<◌, ◌≤◌, true, List, [], ◌∷◌}
use Rattle.std.proofs.Common.{length, set, Option, Some, refl, sym, ◌∙◌, ap, subst, ⊎_elim, arith}
use Rattle.std.specs.Prelude.{IsSomeAnd, slice_get}
use Rattle.std.specs.List.{AllByRecursion}
use Rattle.plain_lists.specs.EachTwo.{EachTwo}
use Rattle.file_rows.specs.Change.{Fits, IsRecordFor, with_file}
use Rattle.file_rows.specs.Content.{IsValid, file_at, heads_of}
use Rattle.file_rows.specs.FileHead.{HasForm, HoldsRecords, IsFile}
use Rattle.file_rows.specs.Path.{same_path}
use Rattle.file_rows.specs.declared.change.Change.TheVariants.{WriteRecord}
use Rattle.file_rows.specs.declared.content.Content.{Content}
use Rattle.file_rows.specs.declared.head.FileHead.{FileHead}
use Rattle.file_rows.specs.declared.head.Kind.{Kind}
use Rattle.file_rows.specs.declared.head.Kind.TheVariants.{Cyclic}
use Rattle.file_rows.specs.declared.row.FileRow.{FileRow}
use Rattle.file_rows.proofs.ChangeLemmas.{same_path-other, same_path-refl}
use Rattle.file_rows.proofs.EachLemmas.{each_of_map}
use Rattle.file_rows.proofs.EditLemmas.{is_some_and, some_is, system_of}
use Rattle.file_rows.proofs.FindLemmas.{found_has}
use Rattle.record_codec.specs.InPlace.{HasPlaceFor}

abbrev HasOtherPath : FileHead → FileHead → Type 0
HasOtherPath one other = one.path ≢ other.path

abbrev pub IsAt : List ℕ → FileRow → Type 0
IsAt path row = row.head.path ≡ path

pub row_within : (path : List ℕ) (place : ℕ) (rows : List FileRow) → IsSomeAnd (slice_get rows place) (IsAt path) → place < length rows
row_within path place [] at = absurd at
row_within path zero (row ∷ rows) at = omega arith
row_within path (suc place) (row ∷ rows) at = omega (arith, row_within path place rows at)

-- the place of a path is not that of another file
later_other : (path : List ℕ) (head : FileHead) (place : ℕ) (rows : List FileRow) → AllByRecursion (HasOtherPath head) (heads_of rows)
    → IsSomeAnd (slice_get rows place) (IsAt path) → head.path ≢ path
later_other path head place [] each at e = at
later_other path head zero (row ∷ rows) each at e = each.0 (e ∙ sym at)
later_other path head (suc place) (row ∷ rows) each at e = later_other path head place rows each.1 at e

at_path : (path : List ℕ) (row : FileRow) → IsAt path row → same_path row.head.path path ≡ true
at_path path row at = subst (λ (p : List ℕ). same_path row.head.path p ≡ true) at (same_path-refl row.head.path)

-- the file of a path stands at its place
pub row_there : (path : List ℕ) (place : ℕ) (rows : List FileRow) → EachTwo HasOtherPath (heads_of rows)
    → IsSomeAnd (slice_get rows place) (IsAt path) → file_at path rows ≡ slice_get rows place
row_there path place [] differ at = absurd at
row_there path zero (row ∷ rows) differ at = rw (at_path path row at) refl
row_there path (suc place) (row ∷ rows) differ at =
    rw (same_path-other row.head.path path (later_other path row.head place rows differ.0 at)) (row_there path place rows differ.1 at)

-- without a file of the path nothing is changed
pub none_at : (path : List ℕ) (change : FileRow → FileRow) (rows : List FileRow) → AllByRecursion (λ head. head.path ≢ path) (heads_of rows) → with_file path change rows ≡ rows
none_at path change [] each = refl
none_at path change (row ∷ rows) each =
    rw (same_path-other row.head.path path each.0) (ap (λ (rest : List FileRow). row ∷ rest) (none_at path change rows each.1))

others_at : (path : List ℕ) (head : FileHead) (heads : List FileHead) → head.path ≡ path → AllByRecursion (HasOtherPath head) heads → AllByRecursion (λ other. other.path ≢ path) heads
others_at path head [] at each = tt
others_at path head (other ∷ heads) at each = (λ e. each.0 (at ∙ sym e), others_at path head heads at each.1)

-- a change of the file of a path changes what stands at its place
pub with_there : (path : List ℕ) (change : FileRow → FileRow) (place : ℕ) (rows : List FileRow) (row : FileRow) → EachTwo HasOtherPath (heads_of rows)
    → slice_get rows place ≡ Some row → row.head.path ≡ path → with_file path change rows ≡ set rows place (change row)
with_there path change place [] row differ is at = absurd (cc)
with_there path change zero (its ∷ rows) row differ is at =
    let same : its ≡ row = cc in
    let at' : its.head.path ≡ path = ap (λ (r : FileRow). r.head.path) same ∙ at in
    rw (at_path path its at')
    (ap (λ (r : FileRow). change r ∷ with_file path change rows) same
    ∙ ap (λ (rest : List FileRow). change row ∷ rest) (none_at path change rows (others_at path its.head (heads_of rows) at' differ.0)))
with_there path change (suc place) (its ∷ rows) row differ is at =
    let there : IsSomeAnd (slice_get rows place) (IsAt path) = subst (λ (o : Option FileRow). IsSomeAnd o (IsAt path)) (sym is) at in
    rw (same_path-other its.head.path path (later_other path its.head place rows differ.0 there))
    (ap (λ (rest : List FileRow). its ∷ rest) (with_there path change place rows row differ.1 is at))

-- the paths of a content's files differ
pub paths_of : (content : Content) → IsValid content → EachTwo HasOtherPath (heads_of content.rows)
paths_of content valid = ⊎_elim
    (λ empty. subst (λ (rows : List FileRow). EachTwo HasOtherPath (heads_of rows)) (sym empty.rows) tt)
    (λ system. system.files.paths)
    valid.system

times : (before len : ℕ) → suc before * len ≡ before * len + len
times before len = grind arith

one_at_least : (count len : ℕ) → 1 ≤ count → len ≤ count * len
one_at_least zero len least = absurd (omega (arith, least))
one_at_least (suc count) len least = omega (arith, times count len)

record_form : (head : FileHead) → head.kind ≡ Cyclic → IsFile head → HoldsRecords head
record_form head kind file = subst (λ (k : Kind). HasForm k head) kind file.form

-- a record for a file has a place in its body
place_for : (row : FileRow) (number : ℕ) (bytes : List ℕ) → IsFile row.head → length row.body ≡ row.head.size → IsRecordFor row number bytes
    → HasPlaceFor number bytes row.body
place_for row zero bytes file body fits = ⊎_elim
    (λ place. absurd (omega (arith, place.first)))
    (λ first.
    let form = record_form row.head first.1 file in
    omega (arith, fits.exact, body, form.records.3, one_at_least form.records.0 row.head.record_len form.records.1))
    fits.place
place_for row (suc before) bytes file body fits = ⊎_elim
    (λ place. omega (arith, place.last, body, ap (λ (n : ℕ). before * n) fits.exact, fits.exact, times before row.head.record_len))
    (λ first. absurd (omega (arith, first.0)))
    fits.place

-- a record that fits a content has a place in its file
pub record_can : (content : Content) (path : List ℕ) (number : ℕ) (bytes : List ℕ) → IsValid content → Fits content (WriteRecord path number bytes)
    → IsSomeAnd (file_at path content.rows) (λ row. HasPlaceFor number bytes row.body)
record_can content path number bytes valid fits =
    let found = some_is (file_at path content.rows) (λ row. IsRecordFor row number bytes) fits.place in
    let row = found.0 in
    let system = system_of content valid path row found.1 in
    let file : IsFile row.head =
    found_has (λ r. IsFile r.head) (λ r. same_path r.head.path path) content.rows row ((each_of_map (λ (r : FileRow). r.head) IsFile content.rows).1 system.files.each) found.1 in
    let body : length row.body ≡ row.head.size =
    found_has (λ r. length r.body ≡ r.head.size) (λ r. same_path r.head.path path) content.rows row system.files.bodies found.1 in
    is_some_and (file_at path content.rows) (λ row. HasPlaceFor number bytes row.body) row found.1 (place_for row number bytes file body found.2)
