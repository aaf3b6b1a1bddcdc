use Rattle.std.proofs.Common.{ℕ, ◌++◌, take, drop, ◌≡◌, set, ◌≤◌, ◌+◌, arith, length, vec_capacity}
use Rattle.std.proofs.Common.{Option, subst}
use Rattle.std.specs.Prelude.{slice_get, IsSomeAnd}
use Rattle.file_rows.specs.Change.{resized}
use Rattle.file_rows.specs.declared.head.FileHead.{FileHead}
use Rattle.file_rows.proofs.EditLemmas.{some_is}
use Rattle.card_journal.proofs.PoolFileLemmas.{Resized, resize_rows, write_within}
use Rattle.card_journal.proofs.pool.file.resize_file.Goals as goal

pub resize_at-requires-clause-within : goal.resize_at-requires-clause-within
resize_at-requires-clause-within c =
    let heads = c.args.heads.now in
    let i = c.args.place.index in
    let head = some_is (slice_get heads i) (λ head. c.size_at-before.result ≡ head.size) c.size_at-before.ensures in
    write_within heads c.args.bodies.now.items i c.args.place.start head.0 c.requires.full head.1 c.requires.begin c.size_at-before.result head.2

pub resize_at-requires-clause-room : goal.resize_at-requires-clause-room
resize_at-requires-clause-room c =
    let heads = c.args.heads.now in
    let i = c.args.place.index in
    let head = some_is (slice_get heads i) (λ head. c.size_at-before.result ≡ head.size) c.size_at-before.ensures in
    let room = subst (λ (o : Option FileHead). IsSomeAnd o (λ head. length c.args.bodies.now.items + c.args.size ≤ vec_capacity c.args.bodies.now + head.size)) head.1 c.requires.room in
    omega (arith, room, head.2)

after : (c : goal.After-heads-1) → Resized c.args.heads.now c.args.bodies.now.items c.args.place.index c.args.size c.set_size.new.heads c.resize_at.new.bodies.items
after c =
    let heads = c.args.heads.now in
    let i = c.args.place.index in
    let head = some_is (slice_get heads i) (λ head. c.size_at-before.result ≡ head.size) c.size_at-before.ensures in
    let set' = subst (λ (o : Option FileHead). IsSomeAnd o (λ head. c.set_size.new.heads ≡ set heads i (record head { size = c.args.size }))) head.1 c.set_size.ensures in
    let items = subst (λ (n : ℕ). c.resize_at.new.bodies.items ≡ take c.args.place.start c.args.bodies.now.items ++ (resized n (take c.size_at-before.result (drop c.args.place.start c.args.bodies.now.items)) ++ drop (c.args.place.start + c.size_at-before.result) c.args.bodies.now.items)) c.from.ensures c.resize_at.ensures.items in
    resize_rows heads c.args.bodies.now.items i c.args.place.start head.0 c.requires.full head.1 c.requires.begin c.size_at-before.result head.2 c.args.size
    c.resize_at.new.bodies.items c.set_size.new.heads items set'

pub returns-clause-rows : goal.returns-clause-rows
returns-clause-rows c = (after c).0

pub returns-clause-full : goal.returns-clause-full
returns-clause-full c = (after c).1
