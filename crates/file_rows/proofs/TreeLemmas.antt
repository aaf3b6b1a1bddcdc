use Rattle.std.proofs.Common.{◌≡◌, ◌≢◌, Bool, true, false, cond, List, [], ◌∷◌, ◌++◌, filter, refl}
use Rattle.std.proofs.Common.{sym, ◌∙◌, ap, subst, append_assoc, append-nil}
use Rattle.std.specs.List.{Any, AllByRecursion}
use Rattle.file_rows.specs.Content.{AreTree, StandInEarlier}
use Rattle.file_rows.specs.FileHead.{Holds, IsFile}
use Rattle.file_rows.specs.declared.head.FileHead.{FileHead}
use Rattle.file_rows.specs.declared.head.Kind.TheVariants.{Master}
use Rattle.file_rows.proofs.ListLemmas.{any_filter, any_replaced, any_weaker, each_append}
use Rattle.file_rows.proofs.ListLemmas.{each_filter, each_replaced, each_right}

-- one head in the place of another that holds the same files and stands in the same directory
module _ (head head' : FileHead) (kind : head'.kind ≡ head.kind)
    (held : (directory : FileHead) → Holds directory head → Holds directory head')
    (holds : (file : FileHead) → Holds head file → Holds head' file) where
  stand_after : (before between heads : List FileHead) → StandInEarlier (before ++ head ∷ between) heads → StandInEarlier (before ++ head' ∷ between) heads
  stand_after before between [] stand = tt
  stand_after before between (file ∷ heads) stand = (
    any_replaced (λ directory. Holds directory file) before between head head' (holds file) stand.0,
    subst (λ (earlier : List FileHead). StandInEarlier earlier heads) (sym (append_assoc before (head' ∷ between) (file ∷ [])))
        (stand_after before (between ++ file ∷ []) heads
        (subst (λ (earlier : List FileHead). StandInEarlier earlier heads) (append_assoc before (head ∷ between) (file ∷ [])) stand.1)),
  )

  stand_replaced : (earlier before after : List FileHead) → StandInEarlier earlier (before ++ head ∷ after) → StandInEarlier earlier (before ++ head' ∷ after)
  stand_replaced earlier [] after stand =
      (any_weaker (λ directory. Holds directory head) (λ directory. Holds directory head') held earlier stand.0, stand_after earlier [] after stand.1)
  stand_replaced earlier (file ∷ before) after stand = (stand.0, stand_replaced (earlier ++ file ∷ []) before after stand.1)

  pub tree_replaced : (before after : List FileHead) → AreTree (before ++ head ∷ after) → AreTree (before ++ head' ∷ after)
  tree_replaced [] after tree = (kind ∙ tree.0, tree.1, stand_after [] [] after tree.2)
  tree_replaced (first ∷ before) after tree = (
    tree.0,
    each_replaced (λ h. h.kind ≢ Master) before after head head' (λ below e. below (sym kind ∙ e)) tree.1,
    stand_replaced (first ∷ []) before after tree.2,
  )

stand_push : (earlier heads : List FileHead) (head : FileHead) → StandInEarlier earlier heads → Any (λ directory. Holds directory head) (earlier ++ heads)
    → StandInEarlier earlier (heads ++ head ∷ [])
stand_push earlier [] head stand any = (subst (Any (λ directory. Holds directory head)) (append-nil earlier) any, tt)
stand_push earlier (file ∷ heads) head stand any =
    (stand.0, stand_push (earlier ++ file ∷ []) heads head stand.1 (subst (Any (λ directory. Holds directory head)) (sym (append_assoc earlier (file ∷ []) heads)) any))

-- one file more
pub tree_push : (heads : List FileHead) (head : FileHead) → AreTree heads → head.kind ≢ Master → Any (λ directory. Holds directory head) heads
    → AreTree (heads ++ head ∷ [])
tree_push [] head tree below any = absurd tree
tree_push (first ∷ heads) head tree below any =
    (tree.0, each_append (λ h. h.kind ≢ Master) heads (head ∷ []) tree.1 (below, tt), stand_push (first ∷ []) heads head tree.2 any)

-- the last file of a tree with more than one isn't the MF
pub tree_last : (heads : List FileHead) (head : FileHead) → AreTree heads → AreTree (heads ++ head ∷ []) → head.kind ≢ Master
tree_last [] head tree longer = absurd tree
tree_last (first ∷ heads) head tree longer = (each_right (λ h. h.kind ≢ Master) heads (head ∷ []) longer.1).0

-- a test that keeps the directory of each file that it keeps
module _ (test : FileHead → Bool) (closed : (directory file : FileHead) → Holds directory file → test file ≡ true → test directory ≡ true) where
  filter_push : (heads : List FileHead) (head : FileHead) → filter test (heads ++ head ∷ []) ≡ filter test heads ++ filter test (head ∷ [])
  filter_push [] head = refl
  filter_push (first ∷ heads) head =
      let rest = filter_push heads head in
      let step : (b : Bool) → cond b (first ∷ filter test (heads ++ head ∷ [])) (filter test (heads ++ head ∷ [])) ≡ cond b (first ∷ filter test heads) (filter test heads) ++ filter test (head ∷ [])
      = λ b. elim b as (λ b. cond b (first ∷ filter test (heads ++ head ∷ [])) (filter test (heads ++ head ∷ [])) ≡ cond b (first ∷ filter test heads) (filter test heads) ++ filter test (head ∷ [])) [
        | true ↦ ap (λ (hs : List FileHead). first ∷ hs) rest
        | false ↦ rest
      ]
      in step (test first)

  stand_filter : (earlier heads : List FileHead) → StandInEarlier earlier heads → StandInEarlier (filter test earlier) (filter test heads)
  stand_filter earlier [] stand = tt
  stand_filter earlier (file ∷ heads) stand =
      let rest : StandInEarlier (filter test earlier ++ filter test (file ∷ [])) (filter test heads) =
      subst (λ (es : List FileHead). StandInEarlier es (filter test heads)) (filter_push earlier file) (stand_filter (earlier ++ file ∷ []) heads stand.1) in
      let step : (b : Bool) → test file ≡ b → StandInEarlier (filter test earlier ++ cond b (file ∷ []) []) (filter test heads)
      → StandInEarlier (filter test earlier) (cond b (file ∷ filter test heads) (filter test heads))
      = λ b. elim b as (λ b. test file ≡ b → StandInEarlier (filter test earlier ++ cond b (file ∷ []) []) (filter test heads) → StandInEarlier (filter test earlier) (cond b (file ∷ filter test heads) (filter test heads))) [
        | true ↦ λ e later. (any_filter (λ directory. Holds directory file) test earlier (λ directory holds. closed directory file holds e) stand.0, later)
        | false ↦ λ e later. subst (λ (es : List FileHead). StandInEarlier es (filter test heads)) (append-nil (filter test earlier)) later
      ]
      in step (test file) refl rest

  -- a tree whose first file is kept
  pub tree_filter : (heads : List FileHead) → ((first : FileHead) → IsFile first → first.kind ≡ Master → test first ≡ true)
      → AllByRecursion IsFile heads → AreTree heads → AreTree (filter test heads)
  tree_filter [] root each tree = absurd tree
  tree_filter (first ∷ heads) root each tree =
      let kept : test first ≡ true = root first each.0 tree.0 in
      let only : StandInEarlier (cond (test first) (first ∷ []) []) (filter test heads) = stand_filter (first ∷ []) heads tree.2 in
      let parts : AreTree (first ∷ filter test heads) =
      (tree.0, each_filter (λ h. h.kind ≢ Master) test heads tree.1, subst (λ (b : Bool). StandInEarlier (cond b (first ∷ []) []) (filter test heads)) kept only) in
      subst (λ (b : Bool). AreTree (cond b (first ∷ filter test heads) (filter test heads))) (sym kept) parts
