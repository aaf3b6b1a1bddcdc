use Rattle.std.proofs.Common.{ℕ, refl, sym, ◌∙◌, ap, subst, Option, Some, None}
use Rattle.uicc_tree.specs.Arena.{AddsNode, CanStand, children_of, files_of}
use Rattle.uicc_tree.specs.Files.{Files, IsLive, file_of, rows_of}
use Rattle.uicc_tree.proofs.AddLemmas.{adds_to_tree, live_stays}
use Rattle.uicc_tree.proofs.PlaceLemmas.{adds_alone, adds_named, directory_live, marked_new}
use Rattle.uicc_tree.proofs.PlaceLemmas.{room_stays, rows_added, same_arena, within_new}
use Rattle.uicc_tree.proofs.arena.Arena.place.Goals as goal
use Rattle.uicc_tree.proofs.arena.Arena.place.Goals.{After-append_child, In_default}

pub append_child-requires-clause-within : goal.append_child-requires-clause-within
append_child-requires-clause-within c =
    within_new c.args.self.now c.add-node.new.self _ c.add-node.result c.requires.arena c.add-node.ensures c.in-Some.above
    (directory_live (files_of c.args.self.now) c.args.head.path c.args.directory c.requires.stands c.in-Some.above c.in-Some.is)

pub append_child-requires-clause-room : goal.append_child-requires-clause-room
append_child-requires-clause-room c =
    room_stays c.args.self.now c.add-node.new.self _ c.add-node.result c.requires.arena c.add-node.ensures c.in-Some.above
    (directory_live (files_of c.args.self.now) c.args.head.path c.args.directory c.requires.stands c.in-Some.above c.in-Some.is)
    ∙ c.requires.room.child c.in-Some.above c.in-Some.is

adds : (c : After-append_child)
    → AddsNode (files_of c.args.self.now) (files_of c.add-node.new.self) (children_of c.args.self.now) (children_of c.append_child.new.self) c.add-node.result
    (record { head = c.args.head; body = c.args.body.items }) (Some c.in-Some.above)
adds c =
    adds_named c.args.self.now c.add-node.new.self _ c.add-node.result c.requires.arena c.add-node.ensures c.in-Some.above
    (directory_live (files_of c.args.self.now) c.args.head.path c.args.directory c.requires.stands c.in-Some.above c.in-Some.is)
    c.new-children.ensures.items (children_of c.append_child.new.self) c.append_child.ensures.children

stands : (c : After-append_child) → CanStand (files_of c.args.self.now) c.args.head.path (Some c.in-Some.above)
stands c = subst (λ (d : Option ℕ). CanStand (files_of c.args.self.now) c.args.head.path d) c.in-Some.is c.requires.stands

pub returns-in-Some-clause-arena : goal.returns-in-Some-clause-arena
returns-in-Some-clause-arena c =
    same_arena c.add-node.new.self c.append_child.new.self c.append_child.ensures.files c.append_child.ensures.marks c.append_child.ensures.few c.add-node.ensures.few
    (adds_to_tree (files_of c.args.self.now) (files_of c.add-node.new.self) (children_of c.args.self.now) (children_of c.append_child.new.self) c.add-node.result
    _ (Some c.in-Some.above) c.requires.arena.tree (stands c) (adds c))
    (marked_new c.args.self.now c.add-node.new.self _ c.add-node.result c.requires.arena c.add-node.ensures refl)

pub returns-in-Some-clause-rows : goal.returns-in-Some-clause-rows
returns-in-Some-clause-rows c =
    ap rows_of c.append_child.ensures.files ∙ rows_added _ _ _ _ _ _ _ (adds c)

pub returns-in-Some-clause-stay : goal.returns-in-Some-clause-stay
returns-in-Some-clause-stay c node live = (
  subst (λ (t : Files). IsLive t node) (sym c.append_child.ensures.files)
      (live_stays (files_of c.args.self.now) (files_of c.add-node.new.self) (children_of c.args.self.now) (children_of c.append_child.new.self) c.add-node.result
      _ (Some c.in-Some.above) c.requires.arena.tree (stands c) (adds c) node live),
  ap (λ (t : Files). file_of t node) c.append_child.ensures.files ∙ (adds c).files node live,
)

adds_first : (c : In_default)
    → AddsNode (files_of c.args.self.now) (files_of c.add-node.new.self) (children_of c.args.self.now) (children_of c.add-node.new.self) c.add-node.result
    (record { head = c.args.head; body = c.args.body.items }) None
adds_first c =
    adds_alone c.args.self.now c.add-node.new.self _ c.add-node.result c.requires.arena c.add-node.ensures c.new-children.ensures.items

pub returns-in_default-clause-arena : goal.returns-in_default-clause-arena
returns-in_default-clause-arena c = record {
  tree = adds_to_tree (files_of c.args.self.now) (files_of c.add-node.new.self) (children_of c.args.self.now) (children_of c.add-node.new.self) c.add-node.result
      _ None c.requires.arena.tree (subst (λ (d : Option ℕ). CanStand (files_of c.args.self.now) c.args.head.path d) c.in_default.is c.requires.stands) (adds_first c);
  marked = marked_new c.args.self.now c.add-node.new.self _ c.add-node.result c.requires.arena c.add-node.ensures refl;
  few = c.add-node.ensures.few;
}

pub returns-in_default-clause-rows : goal.returns-in_default-clause-rows
returns-in_default-clause-rows c = rows_added _ _ _ _ _ _ _ (adds_first c)
