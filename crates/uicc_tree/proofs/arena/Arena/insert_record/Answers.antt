use Rattle.std.proofs.Common.{◌≡◌, ℕ, List, length, arith, refl, sym, ◌∙◌, ap}
use Rattle.std.proofs.lemmas.List.{with_items_is}
use Rattle.file_rows.specs.Change.{with_body, with_record}
use Rattle.file_rows.specs.declared.row.FileRow.{FileRow}
use Rattle.uicc_tree.proofs.CellLemmas.{cell_at, changes_cell}
use Rattle.uicc_tree.proofs.arena.Arena.insert_record.Goals as goal

pub returns : goal.returns
returns c =
    let slot = c.index_mut-slot.result.now in
    let with_bytes : List ℕ → FileRow = λ bytes. record { head = slot.head; body = bytes } in
    let long : length c.insert_bytes.new.body ≡ slot.body.len = omega (arith, c.insert_bytes.auto.body, c.as_mut_slice.ensures.len) in
    changes_cell c.args.self.now _ c.args.node slot _ _ c.index_mut-slot.ensures.value refl refl refl refl
    (ap with_bytes (with_items_is slot.body c.insert_bytes.new.body long ∙ c.insert_bytes.ensures ∙ ap (with_record 0 c.args.bytes.now) c.as_mut_slice.ensures.value)
    ∙ ap (with_body (with_record 0 c.args.bytes.now)) (sym (cell_at c.args.self.now c.args.node slot c.requires.within c.index_mut-slot.ensures.value)))
