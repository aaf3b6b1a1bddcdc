use Rattle.std.proofs.Common.{◌∙◌, sym}
use Rattle.std.proofs.lemmas.Bool.{false≢true}
use Rattle.file_rows.proofs.EachLemmas.{fails}
use Rattle.record_codec.proofs.durable.Heads.are_going.Goals as goal

pub returns-then-may_go : goal.returns-then-may_go
returns-then-may_go c =
    let may = rw (c.as_slice.ensures.value, c.as_slice-2.ensures.value) at c.may_go.ensures in
    let go = may.0 c.if-may_go.true in
    (λ room. record { differ = go.0; held = go.1; room = c.has_room_to_go.ensures.0 room }, λ going. c.has_room_to_go.ensures.1 going.room)

pub returns-else-may_go : goal.returns-else-may_go
returns-else-may_go c =
    let may = rw (c.as_slice.ensures.value, c.as_slice-2.ensures.value) at c.may_go.ensures in
    fails c.may_go.result c.if-may_go.false (λ going. false≢true (sym c.if-may_go.false ∙ may.1 (going.differ, going.held)))
