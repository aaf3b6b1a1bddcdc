use Rattle.std.proofs.Common.{◌≡◌, ℕ, ◌<◌, Bool, true, false, cond, List, ◌∷◌, [], length, find}
use Rattle.std.proofs.Common.{get_or, refl, sym, ◌∙◌, ap, subst, inl, inr, Option, Some, None}
use Rattle.std.proofs.Common.{arith, ⊎_elim}
use Rattle.std.specs.Prelude.{IsSomeAnd}
use Rattle.std.specs.List.{AllByRecursion}
use Rattle.std.proofs.lemmas.List.{get_or_default, length-map}
use Rattle.std.proofs.lemmas.List.Elements.{Contains-get_or}
use Rattle.std.proofs.lemmas.Option.{none-some, same_Some}
use Rattle.file_rows.specs.Change.{changed}
use Rattle.file_rows.specs.Content.{file_at, heads_of}
use Rattle.file_rows.specs.FileHead.{IsFile}
use Rattle.file_rows.specs.Path.{IsIn, same_path}
use Rattle.file_rows.specs.declared.change.Change.{Change}
use Rattle.file_rows.specs.declared.change.Change.TheVariants.{WriteRange, WriteRecord, PinSet}
use Rattle.file_rows.specs.declared.change.Change.TheVariants.{FileAdd, FileGone, FileState}
use Rattle.file_rows.specs.declared.change.Change.TheVariants.{FileSize}
use Rattle.file_rows.specs.declared.head.FileHead.{FileHead}
use Rattle.file_rows.specs.declared.pin.PinRow.{PinRow}
use Rattle.file_rows.specs.declared.row.FileRow.{FileRow}
use Rattle.uicc_tree.specs.Arena.{HasDirectory}
use Rattle.uicc_tree.specs.Change.{AreRows, FitsFiles, IsRow, rows_after}
use Rattle.uicc_tree.specs.Files.{Files, file_of, no_file, rows_of}
use Rattle.uicc_tree.proofs.MakeLemmas.{row_at}

-- a file in which the added one stands is one of the tree
pub fits_directory : (tree : Files) (head : FileHead) → FitsFiles tree (FileAdd head) → HasDirectory tree head.path
fits_directory tree head fits =
    let any = fits.1.place.1 in
    let within : any.0 < length tree.nodes = omega (arith, any.2, length-map tree.nodes (file_of tree)) in
    let node : ℕ = get_or tree.nodes any.0 0 in
    let at : file_of tree node ≡ any.1 =
    sym (row_at tree tree.nodes any.0 within) ∙ get_or_default (rows_of tree) any.0 no_file any.1 any.2 ∙ any.3 in
    inr (
      node,
      Contains-get_or tree.nodes any.0 0 within,
      subst (λ (row : FileRow). IsIn row.head.path head.path) (sym at) any.4.path,
    )

-- what is found is one of the list
find_all : {X : Type 0} (P : X → Type 0) (test : X → Bool) (xs : List X) (x : X) → AllByRecursion P xs → find test xs ≡ Some x → P x
find_all P test [] x each e = absurd (none-some x e)
find_all {X} P test (y ∷ ys) x each e =
    let step : (b : Bool) → cond b (Some y) (find test ys) ≡ Some x → P x
    = λ b. elim b as (λ b. cond b (Some y) (find test ys) ≡ Some x → P x) [
      | true ↦ λ f. subst P (same_Some y x f) each.0
      | false ↦ λ f. find_all P test ys x each.1 f
    ]
    in step (test y) e

each_row : (rows : List FileRow) → AllByRecursion IsFile (heads_of rows) → AllByRecursion (λ row. IsFile row.head) rows
each_row [] each = tt
each_row (row ∷ rows) each = (each.0, each_row rows each.1)

-- a file of a card has the form of one
pub row_is : (rows : List FileRow) → AreRows rows → (path : List ℕ) (row : FileRow) → file_at path rows ≡ Some row → IsRow row
row_is rows either path row e = ⊎_elim
    (λ files. record {
      file = find_all (λ r. IsFile r.head) (λ r. same_path r.head.path path) rows row (each_row rows files.each) e;
      body = find_all (λ r. length r.body ≡ r.head.size) (λ r. same_path r.head.path path) rows row files.bodies e;
    })
    (λ none. absurd (none-some row (sym (ap (file_at path) none) ∙ e)))
    either

-- what is said of a file that is there, with what follows from its being there
pub some_and : {X : Type 0} (o : Option X) (P Q : X → Type 0) → IsSomeAnd o P → ((x : X) → o ≡ Some x → Q x) → IsSomeAnd o (λ x. P x × Q x)
some_and None P Q said more = said
some_and (Some x) P Q said more = (said, more x refl)

-- the files after a change don't depend on the PINs
pub rows_alike : (rows : List FileRow) (pins : List PinRow) (change : Change) → (changed (record { rows = rows; pins = pins }) change).rows ≡ rows_after rows change
rows_alike rows pins (WriteRange path offset bytes) = refl
rows_alike rows pins (WriteRecord path number bytes) = refl
rows_alike rows pins (PinSet set) = refl
rows_alike rows pins (FileAdd head) = refl
rows_alike rows pins (FileGone path) = refl
rows_alike rows pins (FileState path life) = refl
rows_alike rows pins (FileSize path size) = refl

-- a change that fits leaves the files of a card
pub rows_fit : (tree : Files) (change : Change) → FitsFiles tree change → AreRows (rows_after (rows_of tree) change)
rows_fit tree change fits =
    subst (λ (rows : List FileRow). AreRows rows) (rows_alike (rows_of tree) fits.0 change)
    (⊎_elim (λ none. inr none.rows) (λ system. inl system.files) fits.1.after.system)
