-- Just when a change fits a valid content, by the kind of the change.
use Rattle.std.proofs.Common.{◌≡◌, ◌↔◌, ℕ, zero, suc, ◌+◌, ◌-◌, ◌*◌, ◌≤◌, Bool, List, ◌++◌, length}
use Rattle.std.proofs.Common.{take, drop, replicate, refl, sym, ◌∙◌, ap, subst, Option, Some, None}
use Rattle.std.proofs.Common.{⊎_elim, arith}
use Rattle.std.proofs.lemmas.List.{length-append, length-drop, length-replicate, length-take}
use Rattle.std.proofs.lemmas.List.{length-take-le}
use Rattle.std.specs.Bool.{IsTrue}
use Rattle.std.specs.Prelude.{IsSome, is_some}
use Rattle.file_rows.specs.Change.{Fits, IsRecordFor, resized, with_body, with_file, with_life}
use Rattle.file_rows.specs.Change.{with_record, with_size, written}
use Rattle.file_rows.specs.Conditions.{IsInsideBody, IsRecordOf, IsSizeOf, MeetsConditions}
use Rattle.file_rows.specs.Content.{IsValid, file_at}
use Rattle.file_rows.specs.FileHead.{HasForm, HoldsRecords, IsFile}
use Rattle.file_rows.specs.Path.{same_path}
use Rattle.file_rows.specs.declared.change.Change.{Change}
use Rattle.file_rows.specs.declared.change.Change.TheVariants.{WriteRange, WriteRecord, PinSet}
use Rattle.file_rows.specs.declared.change.Change.TheVariants.{FileAdd, FileGone, FileState}
use Rattle.file_rows.specs.declared.change.Change.TheVariants.{FileSize}
use Rattle.file_rows.specs.declared.content.Content.{Content}
use Rattle.file_rows.specs.declared.head.FileHead.{FileHead}
use Rattle.file_rows.specs.declared.head.Kind.{Kind}
use Rattle.file_rows.specs.declared.head.Kind.TheVariants.{Master, Directory, Application}
use Rattle.file_rows.specs.declared.head.Kind.TheVariants.{Transparent, Linear, Cyclic}
use Rattle.file_rows.specs.declared.head.Life.{Life}
use Rattle.file_rows.specs.declared.row.FileRow.{FileRow}
use Rattle.file_rows.proofs.AddLemmas.{fits_new_file}
use Rattle.file_rows.proofs.EachLemmas.{each_of_map}
use Rattle.file_rows.proofs.EditLemmas.{edited_is, edited_valid, is_some_and, some_is, system_of}
use Rattle.file_rows.proofs.FindLemmas.{found_has}
use Rattle.file_rows.proofs.GoneLemmas.{gone_valid}
use Rattle.file_rows.proofs.PinSetLemmas.{fits_pin}

-- a file that is found has the form of one, and a body of its size
file_is : (content : Content) → IsValid content → (path : List ℕ) (row : FileRow) → file_at path content.rows ≡ Some row → IsFile row.head × (length row.body ≡ row.head.size)
file_is content valid path row found =
    let system = system_of content valid path row found in (
      found_has (λ r. IsFile r.head) (λ r. same_path r.head.path path) content.rows row ((each_of_map (λ (r : FileRow). r.head) IsFile content.rows).1 system.files.each) found,
      found_has (λ r. length r.body ≡ r.head.size) (λ r. same_path r.head.path path) content.rows row system.files.bodies found,
    )

pub some_found : (o : Option FileRow) → IsSome o → (row : FileRow) × (o ≡ Some row)
some_found (Some row) there = (row, refl)
some_found None there = absurd (cc)

pub length-written : (offset : ℕ) (bytes body : List ℕ) → offset + length bytes ≤ length body → length (written offset bytes body) ≡ length body
length-written offset bytes body inside =
    omega (arith, length-append (take offset body ++ bytes) (drop (offset + length bytes) body), length-append (take offset body) bytes, length-take-le offset body (omega (arith, inside)), length-drop (offset + length bytes) body)

-- a file with another body as long as its own
body_valid : (content : Content) → IsValid content → (path : List ℕ) (row : FileRow) (body : List ℕ → List ℕ) → file_at path content.rows ≡ Some row
    → length (body row.body) ≡ length row.body → IsValid (record content { rows = with_file path (with_body body) content.rows })
body_valid content valid path row body found long =
    let is = file_is content valid path row found in
    edited_valid content valid path (with_body body) row found (refl, refl, refl, refl) is.0 (long ∙ is.1) (omega (arith, long, valid.quota))

-- a range inside a body may be written
fits_range : (content : Content) → IsValid content → (path : List ℕ) (offset : ℕ) (bytes : List ℕ)
    → Fits content (WriteRange path offset bytes) ↔ IsInsideBody content.rows path offset bytes
fits_range content valid path offset bytes = (
  λ fits. fits.place,
  λ inside.
      let found = some_is (file_at path content.rows) (λ row. offset + length bytes ≤ length row.body) inside in
      record { place = inside; after = body_valid content valid path found.0 (written offset bytes) found.1 (length-written offset bytes found.0.body found.2) },
)

record_form : (head : FileHead) → head.kind ≡ Cyclic → IsFile head → HoldsRecords head
record_form head kind file = subst (λ (k : Kind). HasForm k head) kind file.form

one_more : (before len : ℕ) → suc before * len ≡ before * len + len
one_more before len = grind arith

one_at_least : (count len : ℕ) → 1 ≤ count → len ≤ count * len
one_at_least zero len least = absurd (omega (arith, least))
one_at_least (suc count) len least = omega (arith, one_more count len)

pub record_long : (row : FileRow) (number : ℕ) (bytes : List ℕ) → IsFile row.head → length row.body ≡ row.head.size → IsRecordFor row number bytes
    → length (with_record number bytes row.body) ≡ length row.body
record_long row zero bytes file body fits = ⊎_elim
    (λ place. absurd (omega (arith, place.first)))
    (λ first.
    let form = record_form row.head first.1 file in
    let inside : length bytes ≤ length row.body = omega (arith, fits.exact, body, form.records.3, one_at_least form.records.0 row.head.record_len form.records.1) in
    omega (arith, inside, length-append bytes (take (length row.body - length bytes) row.body), length-take-le (length row.body - length bytes) row.body (omega arith)))
    fits.place
record_long row (suc before) bytes file body fits = ⊎_elim
    (λ place. length-written (before * length bytes) bytes row.body (omega (arith, place.last, body, ap (λ (n : ℕ). before * n) fits.exact, fits.exact, one_more before row.head.record_len)))
    (λ first. absurd (omega (arith, first.0)))
    fits.place

-- a record may be written in its place, or as the first of a cyclic file
fits_record : (content : Content) → IsValid content → (path : List ℕ) (number : ℕ) (bytes : List ℕ)
    → Fits content (WriteRecord path number bytes) ↔ IsRecordOf content.rows path number bytes
fits_record content valid path number bytes = (
  λ fits. fits.place,
  λ of.
      let found = some_is (file_at path content.rows) (λ row. IsRecordFor row number bytes) of in
      let is = file_is content valid path found.0 found.1 in
      record { place = of; after = body_valid content valid path found.0 (with_record number bytes) found.1 (record_long found.0 number bytes is.0 is.1 found.2) },
)

-- the form of a file doesn't depend on its life cycle status
form_alive : (kind : Kind) (head : FileHead) (life : Life) → HasForm kind head → HasForm kind (record head { life = life })
form_alive Master head life form =
    record { path = form.path; name = form.name; bare = record { size = form.bare.size; record_len = form.bare.record_len; sfi = form.bare.sfi } }
form_alive Directory head life form =
    record { path = form.path; name = form.name; bare = record { size = form.bare.size; record_len = form.bare.record_len; sfi = form.bare.sfi } }
form_alive Application head life form =
    record { path = form.path; shortest = form.shortest; longest = form.longest; bare = record { size = form.bare.size; record_len = form.bare.record_len; sfi = form.bare.sfi } }
form_alive Transparent head life form =
    record { path = form.path; name = form.name; sfi = form.sfi; record_len = form.record_len; smallest = form.smallest; largest = form.largest }
form_alive Linear head life form =
    record { path = form.path; name = form.name; sfi = form.sfi; shortest = form.shortest; longest = form.longest; records = form.records }
form_alive Cyclic head life form =
    record { path = form.path; name = form.name; sfi = form.sfi; shortest = form.shortest; longest = form.longest; records = form.records }

-- the life cycle status of each file may change
fits_life : (content : Content) → IsValid content → (path : List ℕ) (life : Life) → Fits content (FileState path life) ↔ IsSome (file_at path content.rows)
fits_life content valid path life = (
  λ fits. fits.place,
  λ there.
      let found = some_found (file_at path content.rows) there in
      let row = found.0 in
      let is = file_is content valid path row found.1 in
      record {
        place = there;
        after = edited_valid content valid path (with_life life) row found.1 (refl, refl, refl, refl)
            (record { depth = is.0.depth; form = form_alive row.head.kind row.head life is.0.form }) is.1 (omega (arith, valid.quota));
      },
)

pub length-resized : (size : ℕ) (body : List ℕ) → length (resized size body) ≡ size
length-resized size body =
    omega (arith, length-append (take size body) (replicate (size - length body) 255), length-take size body, length-replicate {A = ℕ} (size - length body) 255)

-- a file may get a size that its kind may have, on a card with room
fits_size : (content : Content) → IsValid content → (path : List ℕ) (size : ℕ) → Fits content (FileSize path size) ↔ IsSizeOf content.rows path size
fits_size content valid path size = (
  λ fits.
      let found = some_found (file_at path content.rows) fits.place in
      let is = file_is content valid path found.0 found.1 in
      let after = edited_is content valid path (with_size size) found.0 found.1 (refl, refl, refl, refl) fits.after in
      is_some_and (file_at path content.rows) _ found.0 found.1 (after.0, omega (arith, after.1, is.1, length-resized size found.0.body)),
  λ of.
      let found = some_is (file_at path content.rows) _ of in
      let is = file_is content valid path found.0 found.1 in
      record {
        place = ap is_some found.1;
        after = edited_valid content valid path (with_size size) found.0 found.1 (refl, refl, refl, refl) found.2.0 (length-resized size found.0.body)
            (omega (arith, found.2.1, is.1, length-resized size found.0.body));
      },
)

-- a file may always go
fits_gone : (content : Content) → IsValid content → (path : List ℕ) → Fits content (FileGone path) ↔ IsSome (file_at path content.rows)
fits_gone content valid path = (
  λ fits. fits.place,
  λ there.
      let found = some_found (file_at path content.rows) there in
      record { place = there; after = gone_valid content valid (system_of content valid path found.0 found.1) path },
)

pub fits_where : (content : Content) (change : Change) → IsValid content → Fits content change ↔ MeetsConditions content change
fits_where content (WriteRange path offset bytes) valid = fits_range content valid path offset bytes
fits_where content (WriteRecord path number bytes) valid = fits_record content valid path number bytes
fits_where content (PinSet set) valid = fits_pin set content valid
fits_where content (FileAdd head) valid = fits_new_file head content valid
fits_where content (FileGone path) valid = fits_gone content valid path
fits_where content (FileState path life) valid = fits_life content valid path life
fits_where content (FileSize path size) valid = fits_size content valid path size

-- a test of the conditions of a change is one of whether it fits
pub fits_tested : (content : Content) (change kind : Change) (r : Bool) → IsValid content → change ≡ kind → (IsTrue r ↔ MeetsConditions content kind) → IsTrue r ↔ Fits content change
fits_tested content change kind r valid is test =
    let fits = fits_where content kind valid in (
      λ e. subst (λ (c : Change). Fits content c) (sym is) (fits.1 (test.0 e)),
      λ f. test.1 (fits.0 (subst (λ (c : Change). Fits content c) is f)),
    )
