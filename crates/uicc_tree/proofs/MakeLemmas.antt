use Rattle.std.proofs.Common.{◌≡◌, ◌≢◌, ◌⊎◌, ℕ, zero, suc, ◌<◌, List, ◌∷◌, [], ◌++◌, map, length}
use Rattle.std.proofs.Common.{take, get_or, refl, sym, ◌∙◌, ap, subst, inl, inr, ⊎_elim, arith}
use Rattle.std.proofs.lemmas.List.{append-nil, append_assoc, get_or-take, get_or_default}
use Rattle.std.proofs.lemmas.List.{length-map, length-take-le}
use Rattle.std.proofs.lemmas.List.Elements.{All-from_recursion, Contains-get_or}
use Rattle.std.specs.Prelude.{Any}
use Rattle.std.specs.List.{AllByRecursion}
use Rattle.plain_lists.specs.EachTwo.{EachTwo}
use Rattle.file_rows.specs.Content.{AreFiles, AreTree, StandInEarlier, heads_of}
use Rattle.file_rows.specs.FileHead.{HasForm, Holds, IsFile}
use Rattle.file_rows.specs.Path.{master}
use Rattle.file_rows.specs.declared.head.FileHead.{FileHead}
use Rattle.file_rows.specs.declared.head.Kind.{Kind}
use Rattle.file_rows.specs.declared.head.Kind.TheVariants.{Master}
use Rattle.file_rows.specs.declared.row.FileRow.{FileRow}
use Rattle.uicc_tree.specs.Arena.{HasDirectory}
use Rattle.uicc_tree.specs.Files.{Files, IsLive, file_of, no_file, no_head, path_of, rows_of}

-- what holds of each two holds of an earlier and a later one
EachTwo-at : {X : Type 0} (R : X → X → Type 0) (xs : List X) → EachTwo R xs → (j i : ℕ) (d : X) → j < i → i < length xs → R (get_or xs j d) (get_or xs i d)
EachTwo-at R [] each j i d before within = absurd (omega (arith, within))
EachTwo-at R (x ∷ xs) each zero zero d before within = absurd (omega (arith, before))
EachTwo-at R (x ∷ xs) each zero (suc i) d before within = All-from_recursion (R x) xs each.0 i d (omega (arith, within))
EachTwo-at R (x ∷ xs) each (suc j) zero d before within = absurd (omega (arith, before))
EachTwo-at R (x ∷ xs) each (suc j) (suc i) d before within = EachTwo-at R xs each.1 j i d (omega (arith, before)) (omega (arith, within))

-- each file stands in an earlier one
StandInEarlier-at : (earlier heads : List FileHead) → StandInEarlier earlier heads → (i : ℕ) (d : FileHead) → i < length heads
    → Any (λ directory. Holds directory (get_or heads i d)) (earlier ++ take i heads)
StandInEarlier-at earlier [] stand i d within = absurd (omega (arith, within))
StandInEarlier-at earlier (head ∷ heads) stand zero d within =
    subst (λ (hs : List FileHead). Any (λ directory. Holds directory head) hs) (sym (append-nil earlier)) stand.0
StandInEarlier-at earlier (head ∷ heads) stand (suc i) d within =
    subst (λ (hs : List FileHead). Any (λ directory. Holds directory (get_or heads i d)) hs) (append_assoc earlier (head ∷ []) (take i heads))
    (StandInEarlier-at (earlier ++ head ∷ []) heads stand.1 i d (omega (arith, within)))

-- the first file is the MF, and each other stands in an earlier one
AreTree-at : (heads : List FileHead) → AreTree heads → AllByRecursion IsFile heads → (i : ℕ) (d : FileHead) → i < length heads
    → ((i ≡ 0) × ((get_or heads i d).path ≡ master)) ⊎ Any (λ directory. Holds directory (get_or heads i d)) (take i heads)
AreTree-at [] tree each i d within = absurd (omega (arith, within))
AreTree-at (first ∷ heads) tree each zero d within =
    let form : HasForm Master first = subst (λ (kind : Kind). HasForm kind first) tree.0 each.0.form in
    inl (refl, form.path)
AreTree-at (first ∷ heads) tree each (suc i) d within =
    inr (StandInEarlier-at (first ∷ []) heads tree.2 i d (omega (arith, within)))

-- a list without elements
empty_list : (ns : List ℕ) → length ns ≡ 0 → ns ≡ []
empty_list [] e = refl
empty_list (n ∷ ns) e = absurd (omega (arith, e))

-- where there is a file there are files
pub files_there : (rows : List FileRow) (i : ℕ) → i < length rows → AreFiles rows ⊎ (rows ≡ []) → AreFiles rows
files_there rows i within either = ⊎_elim (λ files. files) (λ none. absurd (omega (arith, within, ap length none))) either

-- the head at a place of the rows
head_at : (rows : List FileRow) (k : ℕ) → get_or (heads_of rows) k no_head ≡ (get_or rows k no_file).head
head_at [] k = refl
head_at (row ∷ rows) zero = refl
head_at (row ∷ rows) (suc k) = head_at rows k

-- the file at a place of the rows of a tree
pub row_at : (tree : Files) (nodes : List ℕ) (k : ℕ) → k < length nodes → get_or (map (file_of tree) nodes) k no_file ≡ file_of tree (get_or nodes k 0)
row_at tree [] k within = absurd (omega (arith, within))
row_at tree (node ∷ nodes) zero within = refl
row_at tree (node ∷ nodes) (suc k) within = row_at tree nodes k (omega (arith, within))

module _ (rows : List FileRow) (files : AreFiles rows) (tree : Files) (i : ℕ) (within : i < length rows) (so_far : rows_of tree ≡ take i rows) where
  many : length tree.nodes ≡ i
  many = sym (length-map tree.nodes (file_of tree)) ∙ ap length so_far ∙ length-take-le i rows (omega (arith, within))

  -- the file at an earlier place
  earlier_at : (k : ℕ) → k < i → (file_of tree (get_or tree.nodes k 0)).head ≡ get_or (heads_of rows) k no_head
  earlier_at k before =
      let place : k < length tree.nodes = omega (arith, before, many) in
      ap (λ (r : FileRow). r.head) (sym (row_at tree tree.nodes k place) ∙ ap (λ (rs : List FileRow). get_or rs k no_file) so_far ∙ get_or-take i rows k no_file before)
      ∙ sym (head_at rows k)

  heads_within : i < length (heads_of rows)
  heads_within = omega (arith, within, length-map rows (λ (r : FileRow). r.head))

  -- no earlier file has the path of the next one
  pub next_is_new : (node : ℕ) → IsLive tree node → path_of tree node ≢ (get_or rows i no_file).head.path
  next_is_new node live e =
      let before : live.0 < i = omega (arith, live.1, many) in
      let at : get_or tree.nodes live.0 0 ≡ node = get_or_default tree.nodes live.0 0 node live.1 ∙ live.2 in
      EachTwo-at (λ one other. one.path ≢ other.path) (heads_of rows) files.paths live.0 i no_head before heads_within
      (ap (λ (h : FileHead). h.path) (sym (earlier_at live.0 before)) ∙ ap (path_of tree) at ∙ e ∙ ap (λ (h : FileHead). h.path) (sym (head_at rows i)))

  -- the next one stands in an earlier one
  pub next_has_directory : HasDirectory tree (get_or rows i no_file).head.path
  next_has_directory = ⊎_elim
      (λ first.
      let none : length tree.nodes ≡ 0 = many ∙ first.0 in
      inl (empty_list tree.nodes none, ap (λ (h : FileHead). h.path) (sym (head_at rows i)) ∙ first.1))
      (λ above.
      let before : above.0 < i = omega (arith, above.2, length-take-le i (heads_of rows) (omega (arith, heads_within))) in
      let place : above.0 < length tree.nodes = omega (arith, before, many) in
      let directory : get_or (heads_of rows) above.0 no_head ≡ above.1 =
      get_or_default (heads_of rows) above.0 no_head above.1 (omega (arith, before, heads_within))
      ∙ sym (get_or-take i (heads_of rows) above.0 above.1 before) ∙ above.3 in
      let path : path_of tree (get_or tree.nodes above.0 0) ≡ above.1.path =
      ap (λ (h : FileHead). h.path) (earlier_at above.0 before ∙ directory) in
      inr (
        get_or tree.nodes above.0 0,
        Contains-get_or tree.nodes above.0 0 place,
        (above.4.path.0, ap (λ (h : FileHead). h.path) (sym (head_at rows i)) ∙ above.4.path.1 ∙ ap (λ (p : List ℕ). p ++ above.4.path.0 ∷ []) (sym path)),
      ))
      (AreTree-at (heads_of rows) files.tree files.each i no_head heads_within)
