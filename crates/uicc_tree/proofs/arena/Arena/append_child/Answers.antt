use Rattle.std.proofs.Common.{List, ap, sym, ◌∙◌, ◌++◌, ◌∷◌, [], set, refl}
use Rattle.std.proofs.lemmas.List.{map-set}
use Rattle.file_rows.specs.declared.row.FileRow.{FileRow}
use Rattle.uicc_tree.specs.Arena.{cell_of, children_of}
use Rattle.uicc_tree.specs.Files.{Files}
use Rattle.uicc_tree.specs.declared.room.Room.TheVariants.{Nothing}
use Rattle.uicc_tree.proofs.SlotLemmas.{map_at, map_set_same}
use Rattle.uicc_tree.proofs.arena.Arena.append_child.Goals as goal

pub returns-clause-files : goal.returns-clause-files
returns-clause-files c =
    let with_cells : List FileRow → Files = λ cells. record { nodes = c.args.self.now.order.items; cells = cells; room = Nothing } in
    ap with_cells (map_set_same cell_of c.args.self.now.slots.items c.args.directory c.index_mut-slot.result.now _ c.index_mut-slot.ensures.value refl)

pub returns-clause-children : goal.returns-clause-children
returns-clause-children c =
    let were = map_at (λ slot. slot.children.items) c.args.self.now.slots.items c.args.directory c.index_mut-slot.result.now [] c.requires.within c.index_mut-slot.ensures.value in
    map-set (λ slot. slot.children.items) c.args.self.now.slots.items c.args.directory _
    ∙ ap (λ items. set (children_of c.args.self.now) c.args.directory items) (c.push_reserved.ensures.items ∙ ap (λ items. items ++ c.args.node ∷ []) (sym were))

pub returns-clause-marks : goal.returns-clause-marks
returns-clause-marks c =
    map_set_same (λ slot. slot.live) c.args.self.now.slots.items c.args.directory c.index_mut-slot.result.now _ c.index_mut-slot.ensures.value refl
