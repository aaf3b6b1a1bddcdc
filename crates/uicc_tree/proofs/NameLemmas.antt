-- Applications stand in the MF, so a search among its children finds each.
use Rattle.std.proofs.Common.{◌≡◌, ℕ, Bool, true, ◌&&◌, List, [], ◌∷◌, map, find, nat_eq, Contains}
use Rattle.std.proofs.Common.{refl, sym, ◌∙◌, ap, subst, ⊎_elim}
use Rattle.std.proofs.lemmas.Bool.{true≢false}
use Rattle.std.specs.List.{AllByRecursion, starts_with}
use Rattle.std.specs.Str.{bytes_eq}
use Rattle.file_rows.specs.Content.{heads_of}
use Rattle.file_rows.specs.FileHead.{HasForm, IsFile, is_application}
use Rattle.file_rows.specs.Find.{application_named, application_of_name}
use Rattle.file_rows.specs.Path.{IsIn, is_in, master}
use Rattle.file_rows.specs.declared.head.FileHead.{FileHead}
use Rattle.file_rows.specs.declared.head.Kind.{Kind}
use Rattle.file_rows.specs.declared.head.Kind.TheVariants.{Master, Directory, Application}
use Rattle.file_rows.specs.declared.head.Kind.TheVariants.{Transparent, Linear, Cyclic}
use Rattle.file_rows.specs.declared.row.FileRow.{FileRow}
use Rattle.file_rows.proofs.ListLemmas.{contains_cases}
use Rattle.file_rows.proofs.PathLemmas.{both_hold, is_in-is}
use Rattle.uicc_tree.specs.Arena.{IsTree, children_at, children_in}
use Rattle.uicc_tree.specs.Change.{AreRows}
use Rattle.uicc_tree.specs.Files.{Files, IsLive, file_of, path_of, rows_of}
use Rattle.uicc_tree.proofs.FindLemmas.{find-filter}
use Rattle.uicc_tree.proofs.GivesLemmas.{nothing_there}

application_inside : (kind : Kind) (head : FileHead) → is_application kind ≡ true → HasForm kind head → IsIn master head.path
application_inside Application head is form = form.path
application_inside Master head is form = absurd (true≢false (sym is))
application_inside Directory head is form = absurd (true≢false (sym is))
application_inside Transparent head is form = absurd (true≢false (sym is))
application_inside Linear head is form = absurd (true≢false (sym is))
application_inside Cyclic head is form = absurd (true≢false (sym is))

file_at_node : (f : ℕ → FileRow) (nodes : List ℕ) (node : ℕ) → AllByRecursion IsFile (heads_of (map f nodes)) → Contains nodes node → IsFile (f node).head
file_at_node f [] node each there = absurd (nothing_there f [] node refl there)
file_at_node f (n ∷ nodes) node each there = ⊎_elim
    (λ same. subst (λ (k : ℕ). IsFile (f k).head) same each.0)
    (λ later. file_at_node f nodes node each.1 later)
    (contains_cases n nodes node there)

abbrev pub is_named_head : List ℕ → FileHead → Bool
is_named_head prefix head = is_application head.kind && starts_with nat_eq head.name prefix

abbrev pub is_named : List ℕ → FileRow → Bool
is_named prefix row = is_named_head prefix row.head

abbrev pub has_name_head : List ℕ → FileHead → Bool
has_name_head name head = is_application head.kind && bytes_eq head.name name

abbrev pub has_name : List ℕ → FileRow → Bool
has_name name row = has_name_head name row.head

-- what only applications are is found among the MF's children as among all files
pub found_in_master : (tree : Files) (children : List (List ℕ)) → IsTree tree children → AreRows (rows_of tree)
    → (test : FileHead → Bool) → ((head : FileHead) → test head ≡ true → is_application head.kind ≡ true) → (root : ℕ)
    → IsLive tree root → path_of tree root ≡ master → (items : List ℕ) → items ≡ children_at children root
    → find (λ row. test row.head) (map (file_of tree) items) ≡ find (λ row. test row.head) (rows_of tree)
found_in_master tree children is either test only root live at items listed =
    ap (λ (ns : List ℕ). find (λ row. test row.head) (map (file_of tree) ns)) (listed ∙ is.child_list root live ∙ ap (children_in tree) at)
    ∙ find-filter (file_of tree) (λ row. test row.head) (λ node. is_in master (path_of tree node)) tree.nodes
    (λ node there passes.
    let file : IsFile (file_of tree node).head = ⊎_elim
    (λ files. file_at_node (file_of tree) tree.nodes node files.each there)
    (λ none. absurd (nothing_there (file_of tree) tree.nodes node none there))
    either in
    (is_in-is master (path_of tree node)).1 (application_inside (file_of tree node).head.kind (file_of tree node).head (only (file_of tree node).head passes) file.form))

-- the first application of the MF's children whose name begins so is that of all files
pub named_in_master : (tree : Files) (children : List (List ℕ)) → IsTree tree children → AreRows (rows_of tree) → (prefix : List ℕ) (root : ℕ)
    → IsLive tree root → path_of tree root ≡ master → (items : List ℕ) → items ≡ children_at children root
    → find (is_named prefix) (map (file_of tree) items) ≡ application_named prefix (rows_of tree)
named_in_master tree children is either prefix root live at items listed =
    found_in_master tree children is either (is_named_head prefix) (λ head passes. (both_hold (is_application head.kind) (starts_with nat_eq head.name prefix) passes).0)
    root live at items listed

-- and so is the one of exactly this name
pub name_in_master : (tree : Files) (children : List (List ℕ)) → IsTree tree children → AreRows (rows_of tree) → (name : List ℕ) (root : ℕ)
    → IsLive tree root → path_of tree root ≡ master → (items : List ℕ) → items ≡ children_at children root
    → find (has_name name) (map (file_of tree) items) ≡ application_of_name name (rows_of tree)
name_in_master tree children is either name root live at items listed =
    found_in_master tree children is either (has_name_head name) (λ head passes. (both_hold (is_application head.kind) (bytes_eq head.name name) passes).0)
    root live at items listed
