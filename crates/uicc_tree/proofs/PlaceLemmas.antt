use Rattle.std.proofs.Common.{◌≡◌, ◌≢◌, ◌⊎◌, ℕ, ◌<◌, List, ◌∷◌, [], ◌++◌, map, length, Contains}
use Rattle.std.proofs.Common.{get_or, set, Bool, true, false, nat_lt, ◌^◌, sym, ◌∙◌, ap, subst}
use Rattle.std.proofs.Common.{Option, Some, None, arith, ⊎_elim}
use Rattle.std.proofs.lemmas.List.{get_or-set_same, get_or-set_other, length-map, map-append}
use Rattle.std.proofs.lemmas.List.Elements.{Contains-push_cases}
use Rattle.std.proofs.lemmas.Option.{none-some, same_Some, slice_get_within}
use Rattle.file_rows.specs.declared.row.FileRow.{FileRow}
use Rattle.uicc_tree.specs.Arena.{AddsNode, CanStand, IsArena, IsTree, Stores, cell_of}
use Rattle.uicc_tree.specs.Arena.{child_room_of, children_at, children_of, files_of, mark_at}
use Rattle.uicc_tree.specs.Arena.{marks_of}
use Rattle.uicc_tree.specs.Files.{Files, IsLive, file_of, no_file, rows_of}
use Rattle.uicc_tree.specs.declared.arena.Arena.{Arena}
use Rattle.uicc_tree.specs.declared.arena.Slot.{Slot}
use Rattle.uicc_tree.proofs.SlotLemmas.{map_get, map_get_some, map_same_on, within_same}
use Rattle.uicc_tree.proofs.TreeLemmas.{in_slots}

-- the rows with one more
pub rows_added : (old new : Files) (were are : List (List ℕ)) (node : ℕ) (row : FileRow) (directory : Option ℕ)
    → AddsNode old new were are node row directory → rows_of new ≡ rows_of old ++ row ∷ []
rows_added old new were are node row directory adds =
    ap (λ (nodes : List ℕ). map (file_of new) nodes) adds.nodes
    ∙ map-append (file_of new) old.nodes (node ∷ [])
    ∙ ap (λ (r : FileRow). map (file_of new) old.nodes ++ r ∷ []) adds.file
    ∙ ap (λ (rows : List FileRow). rows ++ row ∷ []) (map_same_on (file_of new) (file_of old) old.nodes adds.files)

module _ (old new : Arena) (slot : Slot) (node : ℕ) (arena : IsArena old) (stores : Stores old new slot node) where
  -- a node of the old arena isn't the new one
  pub apart : (n : ℕ) → IsLive (files_of old) n → n ≢ node
  apart n live e = stores.fresh (subst (λ (k : ℕ). IsLive (files_of old) k) e live)

  cases : (n : ℕ) → IsLive (files_of new) n → IsLive (files_of old) n ⊎ (node ≡ n)
  cases n live = Contains-push_cases old.order.items node n (subst (λ (ns : List ℕ). Contains ns n) stores.nodes live)

  pub within_new : (n : ℕ) → IsLive (files_of old) n → n < length new.slots.items
  within_new n live = within_same new.slots.items old.slots.items n (stores.others n (apart n live)) (in_slots old arena n live)

  all_within : (n : ℕ) → IsLive (files_of new) n → n < length new.slots.items
  all_within n live = ⊎_elim (within_new n) (λ e. subst (λ (k : ℕ). k < length new.slots.items) e (slice_get_within new.slots.items node slot stores.stored)) (cases n live)

  pub children_stay : (n : ℕ) → IsLive (files_of old) n → children_at (children_of new) n ≡ children_at (children_of old) n
  children_stay n live = map_get (λ s. s.children.items) [] new.slots.items old.slots.items n (stores.others n (apart n live))

  pub room_stays : (n : ℕ) → IsLive (files_of old) n → get_or (child_room_of new) n false ≡ get_or (child_room_of old) n false
  room_stays n live = map_get (λ s. nat_lt (length s.children.items) s.children.capacity) false new.slots.items old.slots.items n (stores.others n (apart n live))

  -- the marks say which nodes are those of files
  pub marked_new : slot.live ≡ true → (n : ℕ) → IsLive (files_of new) n → mark_at (marks_of new) n ≡ true
  marked_new on n live = ⊎_elim
      (λ was. map_get (λ s. s.live) false new.slots.items old.slots.items n (stores.others n (apart n was)) ∙ arena.marked n was)
      (λ e. ap (mark_at (marks_of new)) (sym e) ∙ map_get_some (λ s. s.live) false new.slots.items node slot stores.stored ∙ on)
      (cases n live)

  -- the new tree, whatever the lists of children say of the new node
  pub adds_node : (directory : Option ℕ) (are : List (List ℕ)) → children_at are node ≡ []
      → ((above : ℕ) → IsLive (files_of old) above → directory ≡ Some above → children_at are above ≡ children_at (children_of old) above ++ node ∷ [])
      → ((other : ℕ) → IsLive (files_of old) other → directory ≢ Some other → children_at are other ≡ children_at (children_of old) other)
      → AddsNode (files_of old) (files_of new) (children_of old) are node (cell_of slot) directory
  adds_node directory are alone named others = record {
    nodes = stores.nodes;
    in_range = λ n live. let within = all_within n live in omega (arith, within, length-map new.slots.items cell_of);
    fresh = stores.fresh;
    file = map_get_some cell_of no_file new.slots.items node slot stores.stored;
    files = λ n live. map_get cell_of no_file new.slots.items old.slots.items n (stores.others n (apart n live));
    alone = alone;
    named = named;
    others = others;
  }

  -- as the MF, in no directory
  pub adds_alone : slot.children.items ≡ [] → AddsNode (files_of old) (files_of new) (children_of old) (children_of new) node (cell_of slot) None
  adds_alone empty = adds_node None (children_of new)
      (map_get_some (λ s. s.children.items) [] new.slots.items node slot stores.stored ∙ empty)
      (λ above live e. absurd (none-some above e))
      (λ other live e. children_stay other live)

  -- and named in its directory
  abbrev pub named_children : ℕ → List (List ℕ)
  named_children above = set (children_of new) above (children_at (children_of new) above ++ node ∷ [])

  pub adds_named : (above : ℕ) → IsLive (files_of old) above → slot.children.items ≡ [] → (are : List (List ℕ)) → are ≡ named_children above
      → AddsNode (files_of old) (files_of new) (children_of old) are node (cell_of slot) (Some above)
  adds_named above live empty are e =
      let within : above < length (children_of new) = let w = within_new above live in omega (arith, w, length-map new.slots.items (λ (s : Slot). s.children.items)) in
      adds_node (Some above) are
      (ap (λ (cs : List (List ℕ)). children_at cs node) e
      ∙ get_or-set_other (children_of new) above node (children_at (children_of new) above ++ node ∷ []) [] (λ same. apart above live (sym same))
      ∙ map_get_some (λ s. s.children.items) [] new.slots.items node slot stores.stored ∙ empty)
      (λ n there same.
      let is : above ≡ n = same_Some above n same in
      ap (λ (cs : List (List ℕ)). children_at cs n) e
      ∙ ap (children_at (named_children above)) (sym is)
      ∙ get_or-set_same (children_of new) above (children_at (children_of new) above ++ node ∷ []) [] within
      ∙ ap (λ (cs : List ℕ). cs ++ node ∷ []) (children_stay above live ∙ ap (children_at (children_of old)) is))
      (λ n there differ.
      ap (λ (cs : List (List ℕ)). children_at cs n) e
      ∙ get_or-set_other (children_of new) above n (children_at (children_of new) above ++ node ∷ []) [] (λ same. differ (ap (λ (k : ℕ). Some k) (sym same)))
      ∙ children_stay n there)

-- the directory of a file that can stand there is one of the tree
pub directory_live : (tree : Files) (path : List ℕ) (directory : Option ℕ) → CanStand tree path directory → (n : ℕ) → directory ≡ Some n → IsLive tree n
directory_live tree path directory stands n e = ⊎_elim
    (λ alone. absurd (none-some n (sym alone.0 ∙ e)))
    (λ holds. subst (λ (k : ℕ). IsLive tree k) (same_Some holds.0 n (sym holds.1 ∙ e)) holds.2)
    stands.place

-- an arena of the same files and marks is one
pub same_arena : (mid final : Arena) → files_of final ≡ files_of mid → marks_of final ≡ marks_of mid
    → length final.slots.items ≡ length mid.slots.items → length mid.slots.items < 2 ^ 32
    → IsTree (files_of mid) (children_of final) → ((n : ℕ) → IsLive (files_of mid) n → mark_at (marks_of mid) n ≡ true) → IsArena final
same_arena mid final files marks long few tree marked = record {
  tree = subst (λ (t : Files). IsTree t (children_of final)) (sym files) tree;
  marked = λ n live. ap (λ (ms : List Bool). mark_at ms n) marks ∙ marked n (subst (λ (t : Files). IsLive t n) files live);
  few = omega (arith, long, few);
}
