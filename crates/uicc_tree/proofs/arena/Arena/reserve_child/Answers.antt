use Rattle.std.proofs.Common.{arith, ◌<◌, List, length, nat_lt, false, ap, ◌∙◌, refl}
use Rattle.std.proofs.lemmas.Bool.{lt-ltb}
use Rattle.file_rows.specs.declared.row.FileRow.{FileRow}
use Rattle.uicc_tree.specs.Arena.{cell_of}
use Rattle.uicc_tree.specs.Files.{Files}
use Rattle.uicc_tree.specs.declared.room.Room.TheVariants.{Nothing}
use Rattle.uicc_tree.proofs.SlotLemmas.{OnOk-then, map_at_set, map_set_same}
use Rattle.uicc_tree.proofs.arena.Arena.reserve_child.Goals as goal

pub returns-clause-files : goal.returns-clause-files
returns-clause-files c =
    let with_cells : List FileRow → Files = λ cells. record { nodes = c.args.self.now.order.items; cells = cells; room = Nothing } in
    ap with_cells (map_set_same cell_of c.args.self.now.slots.items c.args.directory c.index_mut-slot.result.now _ c.index_mut-slot.ensures.value refl)

pub returns-clause-children : goal.returns-clause-children
returns-clause-children c =
    map_set_same (λ slot. slot.children.items) c.args.self.now.slots.items c.args.directory c.index_mut-slot.result.now _ c.index_mut-slot.ensures.value c.reserve.ensures.items

pub returns-clause-marks : goal.returns-clause-marks
returns-clause-marks c =
    map_set_same (λ slot. slot.live) c.args.self.now.slots.items c.args.directory c.index_mut-slot.result.now _ c.index_mut-slot.ensures.value refl

pub returns-clause-ok : goal.returns-clause-ok
returns-clause-ok c =
    OnOk-then c.reserve.result
    (λ room.
    let fits : length c.reserve.new.self.items < c.reserve.new.self.capacity = omega (arith, room) in
    map_at_set (λ slot. nat_lt (length slot.children.items) slot.children.capacity) c.args.self.now.slots.items c.args.directory _ false c.requires
    ∙ lt-ltb (length c.reserve.new.self.items) c.reserve.new.self.capacity fits)
    c.reserve.ensures.ok
