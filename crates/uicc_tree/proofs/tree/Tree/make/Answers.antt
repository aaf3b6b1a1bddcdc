use Rattle.std.proofs.Common.{◌≡◌, ◌≢◌, ℕ, List, get_or, sym, ◌∙◌, ap, subst}
use Rattle.std.proofs.lemmas.List.{get_or_read}
use Rattle.file_rows.specs.declared.head.FileHead.{FileHead}
use Rattle.file_rows.specs.declared.row.FileRow.{FileRow}
use Rattle.uicc_tree.specs.Arena.{CanStand, HasDirectory, StandsIn, files_of}
use Rattle.uicc_tree.specs.Files.{Files, IsLive, no_file, path_of}
use Rattle.uicc_tree.proofs.MakeLemmas.{files_there, next_has_directory, next_is_new}
use Rattle.uicc_tree.proofs.tree.Tree.make.Goals as goal

pub directory_of-directory-requires-clause-place : goal.directory_of-directory-requires-clause-place
directory_of-directory-requires-clause-place c =
    let rows = c.args.rows.now in
    let item : c.row-item.result ≡ get_or rows c.loop-row.row-index no_file = get_or_read rows c.loop-row.row-index c.row-item.result c.loop-row-test.true c.row-item.is no_file in
    let path = ap (λ (r : FileRow). r.head.path) (sym item) ∙ sym c.as_slice.ensures.value in
    subst (λ (p : List ℕ). HasDirectory (files_of c.loop-row.arena) p) path
    (next_has_directory rows (files_there rows c.loop-row.row-index c.loop-row-test.true c.requires.files) (files_of c.loop-row.arena) c.loop-row.row-index c.loop-row-test.true c.loop-row.invariant.1)

pub place-requires-clause-stands : goal.place-requires-clause-stands
place-requires-clause-stands c =
    let rows = c.args.rows.now in
    let item : c.row-item.result ≡ get_or rows c.loop-row.row-index no_file = get_or_read rows c.loop-row.row-index c.row-item.result c.loop-row-test.true c.row-item.is no_file in
    let path = ap (λ (h : FileHead). h.path) c.copy.ensures ∙ ap (λ (r : FileRow). r.head.path) item in
    let new : (node : ℕ) → IsLive (files_of c.loop-row.arena) node → path_of (files_of c.loop-row.arena) node ≢ c.copy.result.path =
    λ node live e.
    next_is_new rows (files_there rows c.loop-row.row-index c.loop-row-test.true c.requires.files) (files_of c.loop-row.arena) c.loop-row.row-index c.loop-row-test.true c.loop-row.invariant.1
    node live (e ∙ path) in
    let place : StandsIn (files_of c.loop-row.arena) c.copy.result.path c.directory_of-directory.result =
    subst (λ (p : List ℕ). StandsIn (files_of c.loop-row.arena) p c.directory_of-directory.result)
    (c.as_slice.ensures.value ∙ sym (ap (λ (h : FileHead). h.path) c.copy.ensures)) c.directory_of-directory.ensures in
    subst (λ (t : Files). CanStand t c.copy.result.path c.directory_of-directory.result) (sym c.reserve_place.ensures.files)
    (record { new = new; place = place })
