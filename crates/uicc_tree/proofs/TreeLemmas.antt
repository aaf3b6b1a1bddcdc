use Rattle.std.proofs.Common.{◌≡◌, ℕ, zero, suc, ◌+◌, ◌-◌, ◌<◌, List, ◌∷◌, [], ◌++◌, map, length}
use Rattle.std.proofs.Common.{Contains, get_or, take, Bool, None, refl, sym, ◌∙◌, ap, subst, arith}
use Rattle.std.proofs.lemmas.List.{length-map, length-take-le, get_or_default, take_all, take_more}
use Rattle.std.proofs.lemmas.List.{take-take}
use Rattle.std.proofs.lemmas.List.Elements.{All-contains, Contains-get_or}
use Rattle.std.proofs.lemmas.Slice.Eq.{bytes_eq-Decides}
use Rattle.file_rows.specs.Content.{file_at}
use Rattle.file_rows.specs.Path.{IsIn, is_in, same_path}
use Rattle.file_rows.specs.declared.row.FileRow.{FileRow}
use Rattle.file_rows.proofs.ListLemmas.{contains-filter, filter-contains}
use Rattle.file_rows.proofs.PathLemmas.{is_in-is}
use Rattle.file_rows.proofs.ChangeLemmas.{same_path-other}
use Rattle.uicc_tree.proofs.FindLemmas.{find_only, find_none}
use Rattle.uicc_tree.specs.Arena.{cell_of, files_of, children_of, children_at, IsArena, IsTree}
use Rattle.uicc_tree.specs.Files.{Files, IsLive, IsNodeOf, file_of, path_of, rows_of}
use Rattle.uicc_tree.specs.declared.arena.Arena.{Arena}

-- a node of a file is a place
pub in_slots : (arena : Arena) → IsArena arena → (node : ℕ) → IsLive (files_of arena) node → node < length arena.slots.items
in_slots arena tree node live =
    let within : node < length (map cell_of arena.slots.items) = All-contains (λ n. n < length (map cell_of arena.slots.items)) arena.order.items node tree.tree.in_range live in
    omega (arith, within, length-map arena.slots.items cell_of)

-- a listed child is a file in that of the node, and each such file is listed
module _ (tree : Files) (children : List (List ℕ)) (is : IsTree tree children) (node child : ℕ) (live : IsLive tree node) where
  pub child_is : Contains (children_at children node) child → IsLive tree child × IsIn (path_of tree node) (path_of tree child)
  child_is listed =
      let kept = contains-filter (λ n. is_in (path_of tree node) (path_of tree n)) tree.nodes child (subst (λ (ns : List ℕ). Contains ns child) (is.child_list node live) listed) in
      (kept.0, (is_in-is (path_of tree node) (path_of tree child)).0 kept.1)

  pub child_known : IsLive tree child → IsIn (path_of tree node) (path_of tree child) → Contains (children_at children node) child
  child_known there inside =
      subst (λ (ns : List ℕ). Contains ns child) (sym (is.child_list node live))
      (filter-contains (λ n. is_in (path_of tree node) (path_of tree n)) tree.nodes child there ((is_in-is (path_of tree node) (path_of tree child)).1 inside))

-- a listed child at a place
pub child_at : (arena : Arena) → IsArena arena → (node : ℕ) → IsLive (files_of arena) node → (items : List ℕ) → items ≡ children_at (children_of arena) node
    → (k : ℕ) → k < length items → IsLive (files_of arena) (get_or items k 0) × IsIn (path_of (files_of arena) node) (path_of (files_of arena) (get_or items k 0))
child_at arena tree node live items is k within =
    let listed : Contains (children_at (children_of arena) node) (get_or items k 0) = rw (← is) (Contains-get_or items k 0 within) in
    child_is (files_of arena) (children_of arena) tree.tree node (get_or items k 0) live listed

-- lists with an element behind are equal where both parts are
pub snoc_same : (p q : List ℕ) (x y : ℕ) → p ++ x ∷ [] ≡ q ++ y ∷ [] → (p ≡ q) × (x ≡ y)
snoc_same [] [] x y e = (refl, (cc))
snoc_same [] (b ∷ []) x y e = absurd (cc)
snoc_same [] (b ∷ d ∷ q) x y e = absurd (cc)
snoc_same (a ∷ []) [] x y e = absurd (cc)
snoc_same (a ∷ c ∷ p) [] x y e = absurd (cc)
snoc_same (a ∷ p) (b ∷ q) x y e =
    let heads : a ≡ b = cc in
    let tails : p ++ x ∷ [] ≡ q ++ y ∷ [] = cc in
    let rest : (p ≡ q) × (x ≡ y) = snoc_same p q x y tails in
    (cc, rest.1)

-- a child that ends with the identifier is the one of that identifier
pub child_of_id : (directory path : List ℕ) (id : ℕ) → IsIn directory path → (front : List ℕ) × (path ≡ front ++ id ∷ [])
    → path ≡ directory ++ id ∷ []
child_of_id directory path id inside ends =
    let same : (directory ≡ ends.0) × (inside.0 ≡ id) = snoc_same directory ends.0 inside.0 id (sym inside.1 ∙ ends.1) in
    inside.1 ∙ ap (λ x. directory ++ x ∷ []) same.1

-- a file in that of the node is among its children
pub child_place : (arena : Arena) → IsArena arena → (node : ℕ) → IsLive (files_of arena) node → (items : List ℕ) → items ≡ children_at (children_of arena) node
    → (child : ℕ) → IsLive (files_of arena) child → IsIn (path_of (files_of arena) node) (path_of (files_of arena) child)
    → (k : ℕ) × (k < length items) × (get_or items k 0 ≡ child)
child_place arena tree node live items is child there inside =
    let listed : Contains items child = rw is (child_known (files_of arena) (children_of arena) tree.tree node child live there inside) in
    (listed.0, listed.1, get_or_default items listed.0 0 child listed.1 ∙ listed.2)

-- a list is its front and its last element
split_last : (p : List ℕ) (k : ℕ) → length p ≡ suc k → p ≡ take k p ++ get_or p k 0 ∷ []
split_last p k e =
    let within : k < length p = omega arith in
    sym (take_all (k + 1) p (omega arith)) ∙ take_more p k 0 within

-- what stands on the way to a file is a file
pub above_known : (tree : Files) (children : List (List ℕ)) → IsTree tree children → (m n node : ℕ) → IsLive tree node
    → length (path_of tree node) ≡ n + m → (above : ℕ) × IsLive tree above × (path_of tree above ≡ take n (path_of tree node))
above_known tree children is zero n node live e = (node, live, sym (take_all n (path_of tree node) (omega arith)))
above_known tree children is (suc m) n node live e =
    let path = path_of tree node in
    let long : length path ≡ suc (n + m) = omega arith in
    let up = is.closed node (take (n + m) path) (get_or path (n + m) 0) live (split_last path (n + m) long) in
    let shorter : length (path_of tree up.0) ≡ n + m = ap length up.2 ∙ length-take-le (n + m) path (omega arith) in
    let rest = above_known tree children is m n up.0 up.1 shorter in
    (rest.0, rest.1, rest.2 ∙ ap (take n) up.2 ∙ take-take n (n + m) path (omega arith))

-- where a step of a path finds nothing there is no file of the whole path
pub none_below : (tree : Files) (children : List (List ℕ)) → IsTree tree children → (path : List ℕ) (i at : ℕ) → i < length path
    → path_of tree at ≡ take i path
    → ((child : ℕ) → IsLive tree child → path_of tree child ≡ path_of tree at ++ get_or path i 0 ∷ [] → ⊥)
    → (node : ℕ) → IsLive tree node → path_of tree node ≡ path → ⊥
none_below tree children is path i at within here none node live e =
    let long : length (path_of tree node) ≡ (i + 1) + (length path - (i + 1)) = ap length e ∙ omega arith in
    let up = above_known tree children is (length path - (i + 1)) (i + 1) node live long in
    none up.0 up.1 (up.2 ∙ ap (take (i + 1)) e ∙ take_more path i 0 within ∙ ap (λ p. p ++ get_or path i 0 ∷ []) (sym here))

-- a file of the path is the one that is looked for
pub node_of_path : (tree : Files) (children : List (List ℕ)) → IsTree tree children → (path : List ℕ) (node : ℕ) → IsLive tree node
    → path_of tree node ≡ path → IsNodeOf tree path node
node_of_path tree children is path node live at =
    let test : FileRow → Bool = λ row. same_path row.head.path path in (
      live,
      find_only (file_of tree) test tree.nodes node live ((bytes_eq-Decides (path_of tree node) path).1 at)
          (λ other there same. ap (file_of tree) (is.distinct other node there live ((bytes_eq-Decides (path_of tree other) path).0 same ∙ sym at))),
    )

-- where no node has the path there is no file of it
pub no_file_at : (tree : Files) (path : List ℕ) → ((node : ℕ) → IsLive tree node → path_of tree node ≡ path → ⊥) → file_at path (rows_of tree) ≡ None
no_file_at tree path none = find_none (file_of tree) (λ row. same_path row.head.path path) tree.nodes (λ node live. same_path-other (path_of tree node) path (none node live))
