use Rattle.std.proofs.Common.{length, vec_capacity}
use Rattle.std.specs.Prelude.{slice_get}
use Rattle.file_rows.specs.Change.{file_after}
use Rattle.file_rows.specs.declared.row.FileRow.{FileRow}
use Rattle.card_journal.specs.Pool.{CanWrite, HasSizeRoom}
use Rattle.record_codec.specs.Pooled.{pooled_rows}
use Rattle.card_journal.proofs.PoolChangeLemmas.{can_there, changed_at_path, head_there}
use Rattle.card_journal.proofs.PoolChangeLemmas.{some_weaker, unchanged_at}
use Rattle.card_journal.proofs.pool.file.change_at_path.Goals as goal

pub change_file-requires-clause-can : goal.change_file-requires-clause-can
change_file-requires-clause-can c =
    let heads = c.args.heads.now in
    let bytes = c.args.bodies.now.items in
    let change = c.args.change.now in
    let Can : FileRow → Type 0 = λ row. CanWrite change row.body × HasSizeRoom change (length bytes) (vec_capacity c.args.bodies.now) row.head in
    some_weaker (slice_get (pooled_rows heads bytes) c.in-Some.place.index) Can (λ row. CanWrite change row.body) (λ row both. both.0)
    (can_there heads bytes c.args.path.now c.in-Some.place.index Can c.requires.paths c.in-Some.ensures.found.there c.requires.can)

pub change_file-requires-clause-room : goal.change_file-requires-clause-room
change_file-requires-clause-room c =
    let heads = c.args.heads.now in
    let bytes = c.args.bodies.now.items in
    let change = c.args.change.now in
    let room = vec_capacity c.args.bodies.now in
    let Can : FileRow → Type 0 = λ row. CanWrite change row.body × HasSizeRoom change (length bytes) room row.head in
    head_there heads bytes c.in-Some.place.index c.args.path.now (λ head. HasSizeRoom change (length bytes) room head) c.in-Some.ensures.found.there
    (some_weaker (slice_get (pooled_rows heads bytes) c.in-Some.place.index) Can (λ row. HasSizeRoom change (length bytes) room row.head) (λ row both. both.1)
    (can_there heads bytes c.args.path.now c.in-Some.place.index Can c.requires.paths c.in-Some.ensures.found.there c.requires.can))

pub returns-in-Some-clause-rows : goal.returns-in-Some-clause-rows
returns-in-Some-clause-rows c =
    changed_at_path c.args.heads.now c.args.bodies.now.items c.args.path.now c.in-Some.place.index (file_after c.args.change.now)
    (pooled_rows c.change_file.new.heads c.change_file.new.bodies.items) c.requires.paths c.in-Some.ensures.found.there c.change_file.ensures.rows

pub returns-in-None-clause-rows : goal.returns-in-None-clause-rows
returns-in-None-clause-rows c = unchanged_at c.args.heads.now c.args.bodies.now.items c.args.path.now (file_after c.args.change.now) c.in-None.ensures.none
