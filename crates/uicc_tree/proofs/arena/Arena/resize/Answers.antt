use Rattle.std.proofs.Common.{◌≡◌, ℕ, ◌-◌, ◌≤◌, Bool, cond, List, ◌++◌, length, take, replicate}
use Rattle.std.proofs.Common.{vec_len, arith, refl, sym, ◌∙◌, ap}
use Rattle.std.specs.Prelude.{vec_capacity}
use Rattle.std.proofs.lemmas.List.{append-nil}
use Rattle.file_rows.specs.Change.{resized, with_size}
use Rattle.file_rows.specs.declared.row.FileRow.{FileRow}
use Rattle.uicc_tree.specs.declared.arena.Slot.{Slot}
use Rattle.uicc_tree.proofs.CellLemmas.{cell_at, changes_cell}
use Rattle.uicc_tree.proofs.SlotLemmas.{map_at}
use Rattle.uicc_tree.proofs.arena.Arena.resize.Goals as goal

-- a cut of a body is that to the size
cut : (size : ℕ) (body : List ℕ) → size ≤ length body → take size body ≡ resized size body
cut size body fits =
    let none : size - length body ≡ 0 = omega (arith, fits) in
    sym (ap (λ (n : ℕ). take size body ++ replicate n 255) none ∙ append-nil (take size body))

pub returns-then-size-len : goal.returns-then-size-len
returns-then-size-len c =
    let slot = c.index_mut-slot.result.now in
    let with_bytes : List ℕ → FileRow = λ bytes. record { head = record slot.head { size = c.args.size }; body = bytes } in
    let fits : c.args.size ≤ length slot.body.items = omega (arith, c.if-size-len.true, c.len.ensures, c.from-size.ensures, slot.body.ok.0) in
    changes_cell c.args.self.now _ c.args.node slot _ _ c.index_mut-slot.ensures.value refl refl refl refl
    (ap with_bytes (c.truncate.ensures.items ∙ ap (λ (n : ℕ). take n slot.body.items) c.from-size.ensures ∙ cut c.args.size slot.body.items fits)
    ∙ ap (with_size c.args.size) (sym (cell_at c.args.self.now c.args.node slot c.requires.within c.index_mut-slot.ensures.value)))

pub returns-else-size-len : goal.returns-else-size-len
returns-else-size-len c =
    let slot = c.index_mut-slot.result.now in
    let with_bytes : List ℕ → FileRow = λ bytes. record { head = record slot.head { size = c.args.size }; body = bytes } in
    let capacity = map_at (λ (s : Slot). vec_capacity s.body) c.args.self.now.slots.items c.args.node slot 0 c.requires.within c.index_mut-slot.ensures.value in
    let room : c.from-size.result ≤ vec_capacity slot.body = omega (arith, c.from-size.ensures, c.requires.room, capacity) in
    let ok = c.resize.ensures.succeeds room in
    let body : c.resize.new.self.items ≡ resized c.args.size slot.body.items =
    c.resize.ensures.items
    ∙ ap (λ (b : Bool). cond b (take c.from-size.result slot.body.items ++ replicate (c.from-size.result - vec_len slot.body) 255) slot.body.items) ok
    ∙ ap (λ (n : ℕ). take n slot.body.items ++ replicate (n - vec_len slot.body) 255) c.from-size.ensures
    ∙ ap (λ (n : ℕ). take c.args.size slot.body.items ++ replicate (c.args.size - n) 255) slot.body.ok.0 in
    changes_cell c.args.self.now _ c.args.node slot _ _ c.index_mut-slot.ensures.value refl refl refl refl
    (ap with_bytes body ∙ ap (with_size c.args.size) (sym (cell_at c.args.self.now c.args.node slot c.requires.within c.index_mut-slot.ensures.value)))
