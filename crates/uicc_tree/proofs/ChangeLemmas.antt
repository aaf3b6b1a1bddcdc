use Rattle.std.proofs.Common.{◌≡◌, ◌≢◌, ℕ, Bool, true, false, cond, List, ◌∷◌, [], map, Contains}
use Rattle.std.proofs.Common.{refl, sym, ◌∙◌, ap, subst, Option, Some, None, arith, ⊎_elim}
use Rattle.std.proofs.lemmas.Bool.{cases_eq}
use Rattle.std.proofs.lemmas.List.{get_or-set_other, get_or-set_same, length-map, length-set}
use Rattle.std.proofs.lemmas.Slice.Eq.{bytes_eq-Decides}
use Rattle.std.specs.Prelude.{IsSomeAnd}
use Rattle.file_rows.specs.Change.{with_file}
use Rattle.file_rows.specs.Path.{is_in, same_path}
use Rattle.file_rows.specs.declared.row.FileRow.{FileRow}
use Rattle.file_rows.proofs.ListLemmas.{contains_first, contains_later}
use Rattle.file_rows.proofs.ChangeLemmas.{same_path-other}
use Rattle.uicc_tree.specs.Arena.{ChangesCell, IsArena, cell_of, IsTree, children_of, files_of}
use Rattle.uicc_tree.specs.Arena.{mark_at, with_cell}
use Rattle.uicc_tree.specs.Change.{ChangesFile}
use Rattle.uicc_tree.specs.Files.{Files, IsLive, file_of, no_file, path_of, rows_of}
use Rattle.uicc_tree.specs.declared.arena.Arena.{Arena}
use Rattle.uicc_tree.proofs.FilterLemmas.{filter-same}
use Rattle.uicc_tree.proofs.TreeLemmas.{in_slots}

-- what is said of the file that is there
pub at_file : {X : Type 0} (o : Option X) (P : X → Type 0) (x : X) → o ≡ Some x → IsSomeAnd o P → P x
at_file o P x e said = subst (λ (p : Option _). IsSomeAnd p P) e said

pub no_file_said : {X : Type 0} (o : Option X) (P : X → Type 0) → o ≡ None → IsSomeAnd o P → ⊥
no_file_said o P e said = subst (λ (p : Option _). IsSomeAnd p P) e said

-- a file of the rows is changed where its node's is
with_rows : (f g : ℕ → FileRow) (path : List ℕ) (change : FileRow → FileRow) (ns : List ℕ)
    → ((n : ℕ) → Contains ns n → g n ≡ cond (same_path (f n).head.path path) (change (f n)) (f n)) → map g ns ≡ with_file path change (map f ns)
with_rows f g path change [] each = refl
with_rows f g path change (n ∷ ns) each =
    ap (λ (r : FileRow). r ∷ map g ns) (each n (contains_first n ns))
    ∙ ap (λ (rs : List FileRow). cond (same_path (f n).head.path path) (change (f n)) (f n) ∷ rs) (with_rows f g path change ns (λ m there. each m (contains_later n ns m there)))

module _ (old new : Arena) (node : ℕ) (path : List ℕ) (change : FileRow → FileRow) (arena : IsArena old)
    (live : IsLive (files_of old) node) (at : path_of (files_of old) node ≡ path) (keeps : (row : FileRow) → (change row).head.path ≡ row.head.path)
    (changes : ChangesCell old new node (change (file_of (files_of old) node))) where
  abbrev tree : Files
  tree = with_cell (files_of old) node (change (file_of (files_of old) node))

  here : file_of tree node ≡ change (file_of (files_of old) node)
  here = get_or-set_same (files_of old).cells node (change (file_of (files_of old) node)) no_file
      (let low = in_slots old arena node live in omega (arith, low, length-map old.slots.items cell_of))

  elsewhere : (n : ℕ) → n ≢ node → file_of tree n ≡ file_of (files_of old) n
  elsewhere n apart = get_or-set_other (files_of old).cells node n (change (file_of (files_of old) node)) no_file apart

  path_same : (n : ℕ) → path_of tree n ≡ path_of (files_of old) n
  path_same n = ⊎_elim
      (λ same.
      ap (path_of tree) same ∙ ap (λ (r : FileRow). r.head.path) here ∙ keeps (file_of (files_of old) node) ∙ ap (path_of (files_of old)) (sym same))
      (λ apart. ap (λ (r : FileRow). r.head.path) (elsewhere n apart))
      (cases_eq n node)

  row_same : (n : ℕ) → IsLive (files_of old) n
      → file_of tree n ≡ cond (same_path (path_of (files_of old) n) path) (change (file_of (files_of old) n)) (file_of (files_of old) n)
  row_same n there = ⊎_elim
      (λ same.
      let test : same_path (path_of (files_of old) n) path ≡ true = (bytes_eq-Decides (path_of (files_of old) n) path).1 (ap (path_of (files_of old)) same ∙ at) in
      ap (file_of tree) same ∙ here ∙ ap (λ (k : ℕ). change (file_of (files_of old) k)) (sym same)
      ∙ ap (λ (b : Bool). cond b (change (file_of (files_of old) n)) (file_of (files_of old) n)) (sym test))
      (λ apart.
      let test : same_path (path_of (files_of old) n) path ≡ false =
      same_path-other (path_of (files_of old) n) path (λ e. apart (arena.tree.distinct n node there live (e ∙ sym at))) in
      elsewhere n apart ∙ ap (λ (b : Bool). cond b (change (file_of (files_of old) n)) (file_of (files_of old) n)) (sym test))
      (cases_eq n node)

  tree_is : IsTree tree (children_of old)
  tree_is = record {
    in_range = λ k d within. let low = arena.tree.in_range k d within in
        omega (arith, low, length-set (files_of old).cells node (change (file_of (files_of old) node)));
    root = λ n first. path_same n ∙ arena.tree.root n first;
    closed = λ n directory id there e.
        let up = arena.tree.closed n directory id there (sym (path_same n) ∙ e) in (up.0, up.1, path_same up.0 ∙ up.2);
    distinct = λ one other there too e. arena.tree.distinct one other there too (sym (path_same one) ∙ e ∙ path_same other);
    child_list = λ n there.
        arena.tree.child_list n there
        ∙ filter-same (λ child. is_in (path_of (files_of old) n) (path_of (files_of old) child)) (λ child. is_in (path_of tree n) (path_of tree child)) (files_of old).nodes
        (λ child too. ap (λ (p : List ℕ). is_in p (path_of (files_of old) child)) (sym (path_same n)) ∙ ap (is_in (path_of tree n)) (sym (path_same child)));
  }

  pub nodes_same : (files_of new).nodes ≡ (files_of old).nodes
  nodes_same = ap (λ (t : Files). t.nodes) changes.files

  pub arena_same : IsArena new
  arena_same = record {
    tree = subst (λ (t : Files). IsTree t (children_of new)) (sym changes.files) (subst (λ (cs : List (List ℕ)). IsTree tree cs) (sym changes.children) tree_is);
    marked = λ n there. ap (λ (ms : List Bool). mark_at ms n) changes.marks ∙ arena.marked n (subst (λ (t : Files). IsLive t n) changes.files there);
    few = omega (arith, arena.few, changes.few);
  }

  pub rows_same : rows_of (files_of new) ≡ with_file path change (rows_of (files_of old))
  rows_same = ap rows_of changes.files ∙ with_rows (file_of (files_of old)) (file_of tree) path change (files_of old).nodes row_same

  pub path_stays : (n : ℕ) → path_of (files_of new) n ≡ path_of (files_of old) n
  path_stays n = ap (λ (t : Files). path_of t n) changes.files ∙ path_same n

-- one file is changed, by its node
pub changes_file : (old new : Arena) (node : ℕ) (path : List ℕ) (change : FileRow → FileRow) → IsArena old → IsLive (files_of old) node → path_of (files_of old) node ≡ path
    → ((row : FileRow) → (change row).head.path ≡ row.head.path) → ChangesCell old new node (change (file_of (files_of old) node)) → ChangesFile old new path change
changes_file old new node path change arena live at keeps changes = record {
  arena = arena_same old new node path change arena live at keeps changes;
  rows = rows_same old new node path change arena live at keeps changes;
  nodes = nodes_same old new node path change arena live at keeps changes;
  paths = path_stays old new node path change arena live at keeps changes;
}
