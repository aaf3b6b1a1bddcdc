use Rattle.std.proofs.Common.{◌≡◌, ◌≢◌, ◌⊎◌, ℕ, ◌<◌, Bool, true, false, not, cond, ◌==◌, ◌&&◌, List}
use Rattle.std.proofs.Common.{◌∷◌, [], ◌++◌, map, filter, length, drop, Contains, get_or, refl, sym}
use Rattle.std.proofs.Common.{◌∙◌, ap, subst, Some, inl, inr, arith, ⊎_elim}
use Rattle.std.specs.Prelude.{slice_get}
use Rattle.std.proofs.lemmas.Bool.{true≢false}
use Rattle.std.proofs.lemmas.Bool.Decides.{Decides-eqb}
use Rattle.std.proofs.lemmas.List.{append-nil, length-append, length-map}
use Rattle.std.proofs.lemmas.List.Elements.{Contains-get_or}
use Rattle.std.proofs.lemmas.Option.{none-some, same_Some}
use Rattle.file_rows.specs.Path.{is_in, master, stands_below}
use Rattle.file_rows.specs.declared.row.FileRow.{FileRow}
use Rattle.uicc_tree.specs.Arena.{ArePruned, IsArena, IsPruned, cell_of, children_at, children_in}
use Rattle.uicc_tree.specs.Arena.{children_of, files_of, mark_at, marks_of}
use Rattle.uicc_tree.specs.Files.{IsLive, file_of, no_file, path_of, rows_of}
use Rattle.uicc_tree.specs.declared.arena.Arena.{Arena}
use Rattle.uicc_tree.specs.declared.arena.Slot.{Slot}
use Rattle.file_rows.proofs.ListLemmas.{contains-filter, contains_first, filter-contains}
use Rattle.file_rows.proofs.PathLemmas.{below_is, below_more, both_hold, is_below, is_false}
use Rattle.file_rows.proofs.PathLemmas.{is_in-is}
use Rattle.uicc_tree.proofs.FilterLemmas.{filter-twice, map-filter}
use Rattle.uicc_tree.proofs.SlotLemmas.{map_get_some, some_within}
use Rattle.uicc_tree.proofs.TreeLemmas.{in_slots}

empty : (p : List ℕ) → length p ≡ 0 → p ≡ []
empty [] e = refl
empty (x ∷ xs) e = absurd (omega (arith, e))

last_or_front : (top directory : List ℕ) (id : ℕ) (rest : List ℕ) → directory ++ id ∷ [] ≡ top ++ rest
    → (top ≡ directory ++ id ∷ []) ⊎ ((front : List ℕ) × (directory ≡ top ++ front))
last_or_front [] directory id rest e = inr (directory, refl)
last_or_front (t ∷ top) [] id rest e =
    let tails : [] ≡ top ++ rest = cc in
    let none : length top ≡ 0 = omega (arith, ap length tails, length-append top rest) in
    inl (ap (λ (x : ℕ). x ∷ top) (cc) ∙ ap (λ (p : List ℕ). id ∷ p) (empty top none))
last_or_front (t ∷ top) (d ∷ directory) id rest e =
    let heads : d ≡ t = cc in
    let tails : directory ++ id ∷ [] ≡ top ++ rest = cc in
    ⊎_elim
    (λ same. inl (ap (λ (x : ℕ). x ∷ top) (sym heads) ∙ ap (λ (p : List ℕ). d ∷ p) same))
    (λ front. inr (front.0, ap (λ (x : ℕ). x ∷ directory) heads ∙ ap (λ (p : List ℕ). t ∷ p) front.1))
    (last_or_front top directory id rest tails)

-- a path below the top one whose directory isn't is the top one
only_top : (top directory : List ℕ) (id : ℕ) → stands_below top (directory ++ id ∷ []) ≡ true → stands_below top directory ≡ false → directory ++ id ∷ [] ≡ top
only_top top directory id below beside = ⊎_elim
    (λ same. sym same)
    (λ front. absurd (true≢false (sym (is_below top directory front.0 front.1) ∙ beside)))
    (last_or_front top directory id (drop (length top) (directory ++ id ∷ [])) (below_is top (directory ++ id ∷ []) below))

from_not : (b : Bool) → not b ≡ true → b ≡ false
from_not true e = absurd (true≢false (sym e))
from_not false e = refl

and_true : (b : Bool) → (b && true) ≡ b
and_true true = refl
and_true false = refl

true_or_false : (b : Bool) → (b ≡ true) ⊎ (b ≡ false)
true_or_false true = inl refl
true_or_false false = inr refl

module _ (old new : Arena) (gone : ℕ) (top : List ℕ) (arena : IsArena old)
    (at : IsLive (files_of old) gone) (at_top : path_of (files_of old) gone ≡ top)
    (pruned : ArePruned top gone old.slots.items new.slots.items (length old.slots.items))
    (order : new.order.items ≡ filter (mark_at (marks_of new)) old.order.items)
    (few : length new.slots.items ≡ length old.slots.items) where
  abbrev below : ℕ → Bool
  below n = stands_below top (path_of (files_of old) n)

  -- the slot of a node before and after
  slot_at : (n : ℕ) → IsLive (files_of old) n → (slot : Slot) × (slice_get old.slots.items n ≡ Some slot)
  slot_at n live = some_within old.slots.items n (in_slots old arena n live)

  after : (n : ℕ) (live : IsLive (files_of old) n) → (slot : Slot) × (slice_get new.slots.items n ≡ Some slot) × IsPruned top gone (slot_at n live).0 slot
  after n live = pruned n (slot_at n live).0 (slot_at n live).1 (in_slots old arena n live)

  path_is : (n : ℕ) (live : IsLive (files_of old) n) → path_of (files_of old) n ≡ (slot_at n live).0.head.path
  path_is n live = ap (λ (r : FileRow). r.head.path) (map_get_some cell_of no_file old.slots.items n (slot_at n live).0 (slot_at n live).1)

  below_is_slot : (n : ℕ) (live : IsLive (files_of old) n) → stands_below top (slot_at n live).0.head.path ≡ below n
  below_is_slot n live = ap (stands_below top) (sym (path_is n live))

  mark_was : (n : ℕ) (live : IsLive (files_of old) n) → (slot_at n live).0.live ≡ true
  mark_was n live = sym (map_get_some (λ (s : Slot). s.live) false old.slots.items n (slot_at n live).0 (slot_at n live).1) ∙ arena.marked n live

  mark_is : (n : ℕ) (live : IsLive (files_of old) n) → mark_at (marks_of new) n ≡ (after n live).0.live
  mark_is n live = map_get_some (λ (s : Slot). s.live) false new.slots.items n (after n live).0 (after n live).1

  -- a node is marked where it isn't below
  mark_new : (n : ℕ) → IsLive (files_of old) n → mark_at (marks_of new) n ≡ not (below n)
  mark_new n live = ⊎_elim
      (λ inside. mark_is n live ∙ (after n live).2.below (below_is_slot n live ∙ inside) ∙ ap not (sym inside))
      (λ beside. mark_is n live ∙ (after n live).2.live (below_is_slot n live ∙ beside) ∙ mark_was n live ∙ ap not (sym beside))
      (true_or_false (below n))

  file_new : (n : ℕ) → IsLive (files_of old) n → below n ≡ false → file_of (files_of new) n ≡ file_of (files_of old) n
  file_new n live beside =
      map_get_some cell_of no_file new.slots.items n (after n live).0 (after n live).1
      ∙ (after n live).2.cell (below_is_slot n live ∙ beside)
      ∙ sym (map_get_some cell_of no_file old.slots.items n (slot_at n live).0 (slot_at n live).1)

  children_new : (n : ℕ) → IsLive (files_of old) n → below n ≡ false
      → children_at (children_of new) n ≡ filter (λ child. not (child == gone)) (children_at (children_of old) n)
  children_new n live beside =
      map_get_some (λ (s : Slot). s.children.items) [] new.slots.items n (after n live).0 (after n live).1
      ∙ (after n live).2.children (below_is_slot n live ∙ beside)
      ∙ ap (filter (λ child. not (child == gone))) (sym (map_get_some (λ (s : Slot). s.children.items) [] old.slots.items n (slot_at n live).0 (slot_at n live).1))

  -- the nodes that stay
  stays : (n : ℕ) → IsLive (files_of new) n → IsLive (files_of old) n × (below n ≡ false)
  stays n live =
      let kept = contains-filter (mark_at (marks_of new)) old.order.items n (subst (λ (ns : List ℕ). Contains ns n) order live) in
      (kept.0, from_not (below n) (sym (mark_new n kept.0) ∙ kept.1))

  kept : (n : ℕ) → IsLive (files_of old) n → below n ≡ false → IsLive (files_of new) n
  kept n live beside =
      subst (λ (ns : List ℕ). Contains ns n) (sym order)
      (filter-contains (mark_at (marks_of new)) old.order.items n live (mark_new n live ∙ ap not beside))

  path_new : (n : ℕ) → IsLive (files_of new) n → path_of (files_of new) n ≡ path_of (files_of old) n
  path_new n live = ap (λ (r : FileRow). r.head.path) (file_new n (stays n live).0 (stays n live).1)

  pub file_kept : (n : ℕ) → IsLive (files_of old) n → stands_below top (path_of (files_of old) n) ≡ false
      → IsLive (files_of new) n × (file_of (files_of new) n ≡ file_of (files_of old) n)
  file_kept n live beside = (kept n live beside, file_new n live beside)

  -- the files that aren't below stay
  pub rows_stay : rows_of (files_of new) ≡ filter (λ row. not (stands_below top row.head.path)) (rows_of (files_of old))
  rows_stay =
      ap (map (file_of (files_of new))) order
      ∙ map-filter (file_of (files_of old)) (file_of (files_of new)) (mark_at (marks_of new)) (λ row. not (stands_below top row.head.path)) old.order.items
      (λ n live. mark_new n live)
      (λ n live on. file_new n live (from_not (below n) (sym (mark_new n live) ∙ on)))

  gone_below : below gone ≡ true
  gone_below = is_below top (path_of (files_of old) gone) [] (at_top ∙ sym (append-nil top))

  not_gone : (n : ℕ) → below n ≡ false → n ≢ gone
  not_gone n beside e = true≢false (sym gone_below ∙ ap below (sym e) ∙ beside)

  apart_test : (n : ℕ) → n ≢ gone → not (n == gone) ≡ true
  apart_test n apart = ⊎_elim
      (λ same. absurd (apart ((Decides-eqb n gone).0 same)))
      (λ differ. ap not differ)
      (true_or_false (n == gone))

  abbrev in_old : ℕ → ℕ → Bool
  in_old n child = is_in (path_of (files_of old) n) (path_of (files_of old) child)

  -- a file that goes from a directory that stays is the one that is taken away
  goes : (n child : ℕ) → IsLive (files_of old) child → below n ≡ false → below child ≡ true → in_old n child ≡ true → child ≡ gone
  goes n child there beside inside e =
      let holds = (is_in-is (path_of (files_of old) n) (path_of (files_of old) child)).0 e in
      arena.tree.distinct child gone there at
      (holds.1 ∙ only_top top (path_of (files_of old) n) holds.0 (ap (stands_below top) (sym holds.1) ∙ inside) beside ∙ sym at_top)

  left_out : (n child : ℕ) → IsLive (files_of new) n → IsLive (files_of old) child
      → (in_old n child && not (child == gone)) ≡ (mark_at (marks_of new) child && is_in (path_of (files_of new) n) (path_of (files_of new) child))
  left_out n child live there = ⊎_elim
      (λ inside.
      let unmarked : mark_at (marks_of new) child ≡ false = mark_new child there ∙ ap not inside in
      let out : (in_old n child && not (child == gone)) ≡ false = is_false (in_old n child && not (child == gone))
      (λ e.
      let both = both_hold (in_old n child) (not (child == gone)) e in
      true≢false (sym ((Decides-eqb child gone).1 (goes n child there (stays n live).1 inside both.0)) ∙ from_not (child == gone) both.1)) in
      out ∙ ap (λ (b : Bool). b && is_in (path_of (files_of new) n) (path_of (files_of new) child)) (sym unmarked))
      (λ beside.
      let too : IsLive (files_of new) child = kept child there beside in
      let marked : mark_at (marks_of new) child ≡ true = mark_new child there ∙ ap not beside in
      let same : in_old n child ≡ is_in (path_of (files_of new) n) (path_of (files_of new) child) =
      ap (λ (p : List ℕ). is_in p (path_of (files_of old) child)) (sym (path_new n live)) ∙ ap (is_in (path_of (files_of new) n)) (sym (path_new child too)) in
      ap (λ (b : Bool). in_old n child && b) (apart_test child (not_gone child beside)) ∙ and_true (in_old n child) ∙ same
      ∙ ap (λ (b : Bool). b && is_in (path_of (files_of new) n) (path_of (files_of new) child)) (sym marked))
      (true_or_false (below child))

  child_list : (n : ℕ) → IsLive (files_of new) n → children_at (children_of new) n ≡ children_in (files_of new) (path_of (files_of new) n)
  child_list n live =
      let stay = stays n live in
      children_new n stay.0 stay.1
      ∙ ap (filter (λ child. not (child == gone))) (arena.tree.child_list n stay.0)
      ∙ filter-twice (λ child. not (child == gone)) (in_old n) (λ child. is_in (path_of (files_of new) n) (path_of (files_of new) child)) (mark_at (marks_of new)) old.order.items
      (λ child there. left_out n child live there)
      ∙ ap (filter (λ child. is_in (path_of (files_of new) n) (path_of (files_of new) child))) (sym order)

  closed_new : (n : ℕ) (directory : List ℕ) (id : ℕ) → IsLive (files_of new) n → path_of (files_of new) n ≡ directory ++ id ∷ []
      → (above : ℕ) × IsLive (files_of new) above × (path_of (files_of new) above ≡ directory)
  closed_new n directory id live e =
      let stay = stays n live in
      let path : path_of (files_of old) n ≡ directory ++ id ∷ [] = sym (path_new n live) ∙ e in
      let up = arena.tree.closed n directory id stay.0 path in
      let beside : below up.0 ≡ false = ⊎_elim
      (λ inside. absurd (true≢false
      (sym (ap (stands_below top) path ∙ below_more top directory (id ∷ []) (ap (stands_below top) (sym up.2) ∙ inside)) ∙ stay.1)))
      (λ out. out)
      (true_or_false (below up.0)) in
      let live_up : IsLive (files_of new) up.0 = kept up.0 up.1 beside in
      (up.0, live_up, path_new up.0 live_up ∙ up.2)

  distinct_new : (one other : ℕ) → IsLive (files_of new) one → IsLive (files_of new) other → path_of (files_of new) one ≡ path_of (files_of new) other → one ≡ other
  distinct_new one other live too e =
      arena.tree.distinct one other (stays one live).0 (stays other too).0 (sym (path_new one live) ∙ e ∙ path_new other too)

  first_kept : (ns : List ℕ) → old.order.items ≡ ns → (n : ℕ) → slice_get (filter (mark_at (marks_of new)) ns) 0 ≡ Some n → IsLive (files_of new) n
      → path_of (files_of old) n ≡ master
  first_kept [] e n first live = absurd (none-some n first)
  first_kept (r ∷ rs) e n first live =
      let at : path_of (files_of old) r ≡ master = arena.tree.root r (ap (λ (ns : List ℕ). slice_get ns 0) e) in
      let live_r : IsLive (files_of old) r = subst (λ (ns : List ℕ). Contains ns r) (sym e) (contains_first r rs) in
      let mark : ℕ → Bool = mark_at (marks_of new) in
      let step : (b : Bool) → mark r ≡ b → slice_get (cond b (r ∷ filter mark rs) (filter mark rs)) 0 ≡ Some n → path_of (files_of old) n ≡ master
      = λ b. elim b as (λ b. mark r ≡ b → slice_get (cond b (r ∷ filter mark rs) (filter mark rs)) 0 ≡ Some n → path_of (files_of old) n ≡ master) [
        | true ↦ λ on f. ap (path_of (files_of old)) (sym (same_Some r n f)) ∙ at
        | false ↦ λ off f.
            let inside : below r ≡ true = ⊎_elim (λ yes'. yes') (λ out. absurd (true≢false (sym (mark_new r live_r ∙ ap not out) ∙ off))) (true_or_false (below r)) in
            let whole : [] ≡ top ++ drop (length top) [] = sym at ∙ below_is top (path_of (files_of old) r) inside ∙ ap (λ (p : List ℕ). top ++ drop (length top) p) at in
            let none : top ≡ [] = empty top (omega (arith, ap length whole, length-append top (drop (length top) (path_of (files_of old) r)), length-append top (drop (length top) []))) in
            absurd (true≢false (sym (is_below top (path_of (files_of old) n) (path_of (files_of old) n) (ap (λ (t : List ℕ). t ++ path_of (files_of old) n) (sym none))) ∙ (stays n live).1))
      ]
      in step (mark r) refl first

  first_live : (ns : List ℕ) (n : ℕ) → slice_get ns 0 ≡ Some n → Contains ns n
  first_live [] n e = absurd (none-some n e)
  first_live (m ∷ ms) n e = subst (λ (k : ℕ). Contains (m ∷ ms) k) (same_Some m n e) (contains_first m ms)

  pub tree_stays : IsArena new
  tree_stays = record {
    tree = record {
      in_range = λ k d within.
          let live = Contains-get_or new.order.items k d within in
          let n : ℕ = get_or new.order.items k d in
          let low : n < length old.slots.items = in_slots old arena n (stays n live).0 in
          omega (arith, low, few, length-map new.slots.items cell_of);
      root = λ n first.
          let live = first_live new.order.items n first in
          path_new n live ∙ first_kept old.order.items refl n (ap (λ (ns : List ℕ). slice_get ns 0) (sym order) ∙ first) live;
      closed = closed_new;
      distinct = distinct_new;
      child_list = child_list;
    };
    marked = λ n live. mark_new n (stays n live).0 ∙ ap not (stays n live).1;
    few = omega (arith, arena.few, few);
  }
