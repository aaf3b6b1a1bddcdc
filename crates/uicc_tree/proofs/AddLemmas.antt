use Rattle.std.proofs.Common.{◌≡◌, ◌≢◌, ◌⊎◌, ℕ, Bool, true, false, cond, filter, List, ◌∷◌, []}
use Rattle.std.proofs.Common.{◌++◌, length, Contains, refl, sym, ◌∙◌, ap, subst, inl, inr, Option}
use Rattle.std.proofs.Common.{Some, None, arith, ⊎_elim}
use Rattle.std.proofs.lemmas.Bool.{cases_eq}
use Rattle.std.proofs.lemmas.List.{append-nil, length-append}
use Rattle.std.proofs.lemmas.List.Elements.{Contains-append_left, Contains-get_or, Contains-push}
use Rattle.std.proofs.lemmas.List.Elements.{Contains-push_cases}
use Rattle.std.proofs.lemmas.Option.{same_Some, none-some}
use Rattle.std.specs.Prelude.{slice_get}
use Rattle.file_rows.specs.Path.{IsIn, is_in, master}
use Rattle.file_rows.specs.declared.row.FileRow.{FileRow}
use Rattle.uicc_tree.specs.Arena.{AddsNode, CanStand, IsTree, children_at, children_in}
use Rattle.uicc_tree.specs.Files.{Files, IsLive, path_of}
use Rattle.file_rows.proofs.ListLemmas.{contains_first}
use Rattle.file_rows.proofs.PathLemmas.{is_false, is_in-is}
use Rattle.uicc_tree.proofs.FilterLemmas.{filter-nothing, filter-push, filter-same}
use Rattle.uicc_tree.proofs.TreeLemmas.{snoc_same}

-- an empty list has no last element
pub no_snoc : (p : List ℕ) (x : ℕ) → [] ≡ p ++ x ∷ [] → ⊥
no_snoc p x e = omega (arith, ap length e, length-append p (x ∷ []))

-- a file doesn't stand in itself
pub not_in_itself : (p : List ℕ) → IsIn p p → ⊥
not_in_itself p inside = omega (arith, ap length inside.1, length-append p (inside.0 ∷ []))

-- a file stands in one directory
pub one_directory : (one other path : List ℕ) → IsIn one path → IsIn other path → one ≡ other
one_directory one other path first second = (snoc_same one other first.0 second.0 (sym first.1 ∙ second.1)).0

-- an empty list has no element
pub nothing : {n : ℕ} → Contains [] n → ⊥
nothing there = omega (arith, there.1)

some_or_not : (o : Option ℕ) (n : ℕ) → (o ≡ Some n) ⊎ (o ≢ Some n)
some_or_not None n = inr (none-some n)
some_or_not (Some m) n = ⊎_elim (λ e. inl (ap (λ k. Some k) e)) (λ ne. inr (λ e. ne (same_Some m n e))) (cases_eq m n)

module _ (old new : Files) (were are : List (List ℕ)) (node : ℕ) (row : FileRow) (directory : Option ℕ)
    (is : IsTree old were) (stands : CanStand old row.head.path directory) (adds : AddsNode old new were are node row directory) where
  -- a node of the new tree is one of the old or the added one
  live_cases : (n : ℕ) → IsLive new n → IsLive old n ⊎ (node ≡ n)
  live_cases n live =
      Contains-push_cases old.nodes node n (subst (λ (ns : List ℕ). Contains ns n) adds.nodes live)

  pub live_stays : (n : ℕ) → IsLive old n → IsLive new n
  live_stays n live = subst (λ (ns : List ℕ). Contains ns n) (sym adds.nodes) (Contains-append_left old.nodes (node ∷ []) n live)

  pub live_added : IsLive new node
  live_added = subst (λ (ns : List ℕ). Contains ns node) (sym adds.nodes) (Contains-push old.nodes node)

  path_stays : (n : ℕ) → IsLive old n → path_of new n ≡ path_of old n
  path_stays n live = ap (λ (r : FileRow). r.head.path) (adds.files n live)

  path_added : path_of new node ≡ row.head.path
  path_added = ap (λ (r : FileRow). r.head.path) adds.file

  -- the directory of the added file
  above_of : (above : List ℕ) → IsIn above row.head.path → (n : ℕ) × (directory ≡ Some n) × IsLive old n × (path_of old n ≡ above)
  above_of above inside = ⊎_elim
      (λ alone. absurd (no_snoc above inside.0 (sym alone.2 ∙ inside.1)))
      (λ holds. (holds.0, holds.1, holds.2, one_directory _ above row.head.path holds.3 inside))
      stands.place

  closed : (n : ℕ) (above : List ℕ) (id : ℕ) → IsLive new n → path_of new n ≡ above ++ id ∷ []
      → (up : ℕ) × IsLive new up × (path_of new up ≡ above)
  closed n above id live e = ⊎_elim
      (λ was. let up = is.closed n above id was (sym (path_stays n was) ∙ e) in (up.0, live_stays up.0 up.1, path_stays up.0 up.1 ∙ up.2))
      (λ same. let up = above_of above (id, sym path_added ∙ ap (path_of new) same ∙ e) in (up.0, live_stays up.0 up.2, path_stays up.0 up.2 ∙ up.3))
      (live_cases n live)

  distinct : (one other : ℕ) → IsLive new one → IsLive new other → path_of new one ≡ path_of new other → one ≡ other
  distinct one other live there e = ⊎_elim
      (λ was. ⊎_elim
      (λ too. is.distinct one other was too (sym (path_stays one was) ∙ e ∙ path_stays other too))
      (λ same. absurd (stands.new one was (sym (path_stays one was) ∙ e ∙ ap (path_of new) (sym same) ∙ path_added)))
      (live_cases other there))
      (λ same. ⊎_elim
      (λ too. absurd (stands.new other too (sym (path_stays other too) ∙ sym e ∙ ap (path_of new) (sym same) ∙ path_added)))
      (λ again. sym same ∙ again)
      (live_cases other there))
      (live_cases one live)

  inside_was : (n child : ℕ) → IsLive old n → IsLive old child → is_in (path_of old n) (path_of old child) ≡ is_in (path_of new n) (path_of new child)
  inside_was n child live there =
      ap (λ (p : List ℕ). is_in p (path_of old child)) (sym (path_stays n live)) ∙ ap (is_in (path_of new n)) (sym (path_stays child there))

  -- the added file stands in its directory
  inside_added : (n : ℕ) → IsLive old n → directory ≡ Some n → IsIn (path_of new n) (path_of new node)
  inside_added n live e = ⊎_elim
      (λ alone. absurd (none-some n (sym alone.0 ∙ e)))
      (λ holds.
      let same : path_of new n ≡ path_of old holds.0 = path_stays n live ∙ ap (path_of old) (sym (same_Some holds.0 n (sym holds.1 ∙ e))) in
      (holds.3.0, path_added ∙ holds.3.1 ∙ ap (λ (p : List ℕ). p ++ holds.3.0 ∷ []) (sym same)))
      stands.place

  -- it stands in no other one
  directory_is : (n : ℕ) → IsLive old n → IsIn (path_of new n) (path_of new node) → directory ≡ Some n
  directory_is n live inside =
      let in_old : IsIn (path_of old n) row.head.path = (inside.0, sym path_added ∙ inside.1 ∙ ap (λ (p : List ℕ). p ++ inside.0 ∷ []) (path_stays n live)) in
      let up = above_of (path_of old n) in_old in
      up.1 ∙ ap (λ (k : ℕ). Some k) (is.distinct up.0 n up.2 live up.3)

  -- nothing stands in it yet
  nothing_in : (child : ℕ) → IsLive old child → is_in (path_of new node) (path_of new child) ≡ false
  nothing_in child there = is_false (is_in (path_of new node) (path_of new child))
      (λ e.
      let inside = (is_in-is (path_of new node) (path_of new child)).0 e in
      let path : path_of old child ≡ row.head.path ++ inside.0 ∷ [] =
      sym (path_stays child there) ∙ inside.1 ∙ ap (λ (p : List ℕ). p ++ inside.0 ∷ []) path_added in
      let up = is.closed child row.head.path inside.0 there path in
      stands.new up.0 up.1 up.2)

  not_in_itself_new : is_in (path_of new node) (path_of new node) ≡ false
  not_in_itself_new = is_false (is_in (path_of new node) (path_of new node)) (λ e. not_in_itself (path_of new node) ((is_in-is (path_of new node) (path_of new node)).0 e))

  abbrev in_new : ℕ → ℕ → Bool
  in_new n child = is_in (path_of new n) (path_of new child)

  -- the files in a directory of the new tree
  split : (n : ℕ) → children_in new (path_of new n) ≡ filter (in_new n) old.nodes ++ filter (in_new n) (node ∷ [])
  split n = ap (filter (in_new n)) adds.nodes ∙ filter-push (in_new n) old.nodes node

  were_in : (n : ℕ) → IsLive old n → filter (in_new n) old.nodes ≡ children_at were n
  were_in n live =
      sym (is.child_list n live ∙ filter-same (λ child. is_in (path_of old n) (path_of old child)) (in_new n) old.nodes (λ child there. inside_was n child live there))

  one_more : (b : Bool) (n : ℕ) → in_new n node ≡ b → filter (in_new n) (node ∷ []) ≡ cond b (node ∷ []) []
  one_more b n e = ap (λ (b : Bool). cond b (node ∷ []) []) e

  child_list : (n : ℕ) → IsLive new n → children_at are n ≡ children_in new (path_of new n)
  child_list n live = ⊎_elim
      (λ was. ⊎_elim
      (λ named.
      let inside : in_new n node ≡ true = (is_in-is (path_of new n) (path_of new node)).1 (inside_added n was named) in
      adds.named n was named
      ∙ sym (split n ∙ ap (λ (ns : List ℕ). ns ++ filter (in_new n) (node ∷ [])) (were_in n was) ∙ ap (λ (ns : List ℕ). children_at were n ++ ns) (one_more true n inside)))
      (λ apart.
      let outside : in_new n node ≡ false =
      is_false (in_new n node) (λ e. apart (directory_is n was ((is_in-is (path_of new n) (path_of new node)).0 e))) in
      adds.others n was apart
      ∙ sym (split n ∙ ap (λ (ns : List ℕ). ns ++ filter (in_new n) (node ∷ [])) (were_in n was) ∙ ap (λ (ns : List ℕ). children_at were n ++ ns) (one_more false n outside)
      ∙ append-nil (children_at were n)))
      (some_or_not directory n))
      (λ same.
      let none : children_in new (path_of new node) ≡ [] =
      split node ∙ ap (λ (ns : List ℕ). ns ++ filter (in_new node) (node ∷ [])) (filter-nothing (in_new node) old.nodes nothing_in) ∙ one_more false node not_in_itself_new in
      ap (children_at are) (sym same) ∙ adds.alone ∙ sym none ∙ ap (λ (k : ℕ). children_in new (path_of new k)) same)
      (live_cases n live)

  first_is : (ns : List ℕ) → old.nodes ≡ ns → (n : ℕ) → slice_get (ns ++ node ∷ []) 0 ≡ Some n → path_of new n ≡ master
  first_is [] empty n first = ⊎_elim
      (λ alone. ap (path_of new) (sym (same_Some node n first)) ∙ path_added ∙ alone.2)
      (λ holds. absurd (nothing (subst (λ (ns : List ℕ). Contains ns holds.0) empty holds.2)))
      stands.place
  first_is (m ∷ ms) full n first =
      let at : slice_get old.nodes 0 ≡ Some n = ap (λ (ns : List ℕ). slice_get ns 0) full ∙ first in
      let live : IsLive old n = subst (λ (ns : List ℕ). Contains ns n) (sym full) (subst (λ (k : ℕ). Contains (m ∷ ms) k) (same_Some m n first) (contains_first m ms)) in
      path_stays n live ∙ is.root n at

  root : (n : ℕ) → slice_get new.nodes 0 ≡ Some n → path_of new n ≡ master
  root n first = first_is old.nodes refl n (ap (λ (ns : List ℕ). slice_get ns 0) (sym adds.nodes) ∙ first)

  -- the new tree is one
  pub adds_to_tree : IsTree new are
  adds_to_tree = record {
    in_range = λ k d within. adds.in_range _ (Contains-get_or new.nodes k d within);
    root = root;
    closed = closed;
    distinct = distinct;
    child_list = child_list;
  }
