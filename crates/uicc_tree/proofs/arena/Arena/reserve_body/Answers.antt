use Rattle.std.proofs.Common.{ℕ, List, refl, ap, arith}
use Rattle.std.specs.Prelude.{vec_capacity}
use Rattle.std.proofs.lemmas.List.{length-set}
use Rattle.file_rows.specs.declared.row.FileRow.{FileRow}
use Rattle.uicc_tree.specs.Arena.{cell_of}
use Rattle.uicc_tree.specs.Files.{Files}
use Rattle.uicc_tree.specs.declared.arena.Slot.{Slot}
use Rattle.uicc_tree.specs.declared.room.Room.TheVariants.{Nothing}
use Rattle.uicc_tree.proofs.SlotLemmas.{OnOk-then, map_at_set, map_set_same}
use Rattle.uicc_tree.proofs.arena.Arena.reserve_body.Goals as goal

pub returns-clause-same : goal.returns-clause-same
returns-clause-same c =
    let slots = c.args.self.now.slots.items in
    let slot = c.index_mut-slot.result.now in
    let with_cells : List FileRow → Files = λ cells. record { nodes = c.args.self.now.order.items; cells = cells; room = Nothing } in
    let with_bytes : List ℕ → FileRow = λ bytes. record { head = slot.head; body = bytes } in
    record {
      files = ap with_cells (map_set_same cell_of slots c.args.node slot _ c.index_mut-slot.ensures.value (ap with_bytes c.reserve.ensures.items));
      children = map_set_same (λ (s : Slot). s.children.items) slots c.args.node slot _ c.index_mut-slot.ensures.value refl;
      marks = map_set_same (λ (s : Slot). s.live) slots c.args.node slot _ c.index_mut-slot.ensures.value refl;
      few = length-set slots c.args.node _;
    }

pub returns-clause-ok : goal.returns-clause-ok
returns-clause-ok c =
    OnOk-then c.reserve.result
    (λ room.
    let capacity = map_at_set (λ (s : Slot). vec_capacity s.body) c.args.self.now.slots.items c.args.node
    (record { head = c.index_mut-slot.result.now.head; body = c.reserve.new.self; children = c.index_mut-slot.result.now.children; live = c.index_mut-slot.result.now.live }) 0 c.requires in
    omega (arith, room, capacity, c.saturating_sub-more.ensures, c.from.ensures, c.len.ensures, c.reserve.ensures.len))
    c.reserve.ensures.ok
