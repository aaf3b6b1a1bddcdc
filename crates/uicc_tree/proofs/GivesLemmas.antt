use Rattle.std.proofs.Common.{◌≡◌, ◌≢◌, ℕ, Bool, true, false, cond, ◌&&◌, ◌==◌, List, [], ◌∷◌, ◌++◌}
use Rattle.std.proofs.Common.{map, find, Contains, refl, sym, ◌∙◌, subst, Option, Some, None}
use Rattle.std.proofs.Common.{IfSome, IfNone, ⊎_elim, arith}
use Rattle.std.proofs.lemmas.Bool.{false≢true}
use Rattle.std.proofs.lemmas.Bool.Decides.{Decides-eqb}
use Rattle.file_rows.specs.FileHead.{is_application}
use Rattle.file_rows.specs.Find.{child, child_with_sfi}
use Rattle.file_rows.specs.Path.{is_in}
use Rattle.file_rows.specs.declared.row.FileRow.{FileRow}
use Rattle.file_rows.proofs.FindLemmas.{found_by_sfi}
use Rattle.file_rows.proofs.ListLemmas.{contains_cases, contains_first, contains_later}
use Rattle.file_rows.proofs.PathLemmas.{both_hold, is_false, is_in-is}
use Rattle.uicc_tree.specs.Change.{AreRows}
use Rattle.uicc_tree.specs.Files.{Files, Gives, HasSfi, IsLive, IsNodeOf, file_of, path_of, rows_of}
use Rattle.uicc_tree.proofs.FindLemmas.{find_none}

-- what is found and what isn't are what a look-up gives
pub gives_parts : (tree : Files) (node : Option ℕ) (row : Option FileRow)
    → IfSome node (λ n. IsLive tree n × (row ≡ Some (file_of tree n))) → IfNone node (row ≡ None) → Gives tree node row
gives_parts tree None row found none = none
gives_parts tree (Some n) row found none = found

-- a child that is no application
pub gives_child : (tree : Files) (directory : List ℕ) (id node : ℕ) → IsNodeOf tree (directory ++ id ∷ []) node
    → is_application (file_of tree node).head.kind ≡ false → Gives tree (Some node) (child (rows_of tree) directory id)
gives_child tree directory id node is none = (is.0, rw (is.1, none) refl)

-- an application isn't found as a child
pub no_child : (tree : Files) (directory : List ℕ) (id node : ℕ) → IsNodeOf tree (directory ++ id ∷ []) node
    → is_application (file_of tree node).head.kind ≡ true → Gives tree None (child (rows_of tree) directory id)
no_child tree directory id node is application = rw (is.1, application) refl

contains-map : (f : ℕ → FileRow) (ns : List ℕ) (n : ℕ) → Contains ns n → Contains (map f ns) (f n)
contains-map f [] n there = absurd (omega (arith, there.1))
contains-map f (m ∷ ns) n there =
    ⊎_elim (λ same. subst (λ (k : ℕ). Contains (map f (m ∷ ns)) (f k)) same (contains_first (f m) (map f ns)))
    (λ later. contains_later (f m) (map f ns) (f n) (contains-map f ns n later))
    (contains_cases m ns n there)

pub nothing_there : (f : ℕ → FileRow) (ns : List ℕ) (n : ℕ) → map f ns ≡ [] → Contains ns n → ⊥
nothing_there f [] n none there = omega (arith, there.1)
nothing_there f (m ∷ ns) n none there = cc

module _ (tree : Files) (directory : List ℕ) (sfi : ℕ) where
  -- the node of a file with the SFI is that of the one that is found by it
  sfi_given : AreRows (rows_of tree) → (node : ℕ) → HasSfi tree directory sfi node → child_with_sfi (rows_of tree) directory sfi ≡ Some (file_of tree node)
  sfi_given either node has = ⊎_elim
      (λ files.
      let given : (file_of tree node).head.sfi ≢ 0 = λ e. has.2 (sym has.3 ∙ e) in
      subst (λ (n : ℕ). child_with_sfi (rows_of tree) directory n ≡ Some (file_of tree node)) has.3
      (found_by_sfi (rows_of tree) directory (file_of tree node) files (contains-map (file_of tree) tree.nodes node has.0) has.1 given))
      (λ none. absurd (nothing_there (file_of tree) tree.nodes node none has.0))
      either

  sfi_absent : ((node : ℕ) → HasSfi tree directory sfi node → ⊥) → child_with_sfi (rows_of tree) directory sfi ≡ None
  sfi_absent none =
      let test : FileRow → Bool = λ row. is_in directory row.head.path && (row.head.sfi == sfi) in
      let fails : sfi ≢ 0 → (node : ℕ) → IsLive tree node → test (file_of tree node) ≡ false =
      λ given node live. is_false (test (file_of tree node))
      (λ e.
      let both = both_hold (is_in directory (path_of tree node)) ((file_of tree node).head.sfi == sfi) e in
      none node (live, (is_in-is directory (path_of tree node)).0 both.0, given, (Decides-eqb (file_of tree node).head.sfi sfi).0 both.1)) in
      let step : (b : Bool) → (sfi == 0) ≡ b → cond b None (find test (rows_of tree)) ≡ None
      = λ b. elim b as (λ b. (sfi == 0) ≡ b → cond b None (find test (rows_of tree)) ≡ None) [
        | true ↦ λ e. refl
        | false ↦ λ e. find_none (file_of tree) test tree.nodes (fails (λ zero. false≢true (sym e ∙ (Decides-eqb sfi 0).1 zero)))
      ]
      in step (sfi == 0) refl

  pub gives_sfi : (node : Option ℕ) → AreRows (rows_of tree) → IfSome node (HasSfi tree directory sfi)
      → IfNone node ((file : ℕ) → HasSfi tree directory sfi file → ⊥) → Gives tree node (child_with_sfi (rows_of tree) directory sfi)
  gives_sfi None either found none = sfi_absent none
  gives_sfi (Some n) either found none = (found.0, sfi_given either n found)
